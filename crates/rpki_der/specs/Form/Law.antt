-- What it means that a part of a form, and that a form of parts, is read exactly.
use Rattle.std.specs.Prelude.{◌≡◌, ℕ, List, [], ◌∷◌, ◌++◌, Bool, true, false, not, ◌&&◌, ◌||◌, ◌⊎◌}
use Rattle.std.specs.Prelude.{◌==◌}
use Rattle.rpki_der.specs.declared.mode.Mode.{Mode}
use Rattle.rpki_der.specs.declared.mode.Mode.TheVariants.{Der, Ber}
use Rattle.std.specs.Prelude.{None}
use Rattle.rpki_der.specs.Grammar.{IsBytes, HasNoFront}
use Rattle.rpki_der.specs.Read.Parse.{Parser, is_next}
use Rattle.rpki_der.specs.Read.Exact.{IsExact}
use Rattle.rpki_der.specs.Form.Parts.{Parts}

-- every tag, or only these
pub data TagSet : Type 0 where
  every : TagSet
  only : List ℕ → TagSet

-- this tag alone
abbrev pub is : ℕ → TagSet
is tag = only (tag ∷ [])

-- no tag
abbrev pub nothing : TagSet
nothing = only []

-- the tags of either set
abbrev pub or : TagSet → TagSet → TagSet
or every b = every
or (only tags) every = every
or (only tags) (only others) = only (tags ++ others)

-- whether the tag is one of these
abbrev pub is_one_of : List ℕ → ℕ → Bool
is_one_of [] tag = false
is_one_of (t ∷ tags) tag = (t == tag) || is_one_of tags tag

-- whether the tag is in the set
abbrev pub has : TagSet → ℕ → Bool
has every tag = true
has (only tags) tag = is_one_of tags tag

-- no tag of the set is next
abbrev pub NoneNext : TagSet → List ℕ → Type 0
NoneNext every octets = octets ≡ []
NoneNext (only []) octets = Unit {0}
NoneNext (only (tag ∷ tags)) octets = (is_next tag octets ≡ false) × NoneNext (only tags) octets

-- The octets begin with a tag of the set.
abbrev pub StartsIn : TagSet → List ℕ → Type 0
StartsIn first octets = (tag : ℕ) × (others : List ℕ) × (octets ≡ tag ∷ others)
    × (has first tag ≡ true)

-- The octets begin with a tag of the first set. Where the second set, of the tags that may not
-- follow, is not empty, there may be no octets.
abbrev pub Starts : TagSet → TagSet → List ℕ → Type 0
Starts first (only []) octets = StartsIn first octets
Starts first (only (tag ∷ tags)) octets = (octets ≡ []) ⊎ StartsIn first octets
Starts first every octets = (octets ≡ []) ⊎ StartsIn first octets

-- whether the set has no tag
abbrev pub is_nothing : TagSet → Bool
is_nothing every = false
is_nothing (only []) = true
is_nothing (only (tag ∷ tags)) = false

-- whether no tag is in both sets
abbrev pub are_apart : TagSet → TagSet → Bool
are_apart (only []) other = true
are_apart (only (tag ∷ tags)) other = not (has other tag) && are_apart (only tags) other
are_apart every other = is_nothing other

-- Reading by p is reading the part G of a form: what p finds is in G, and what is in G it finds
-- where none of the tags apart follows (exact); it begins with a tag in first, or is absent
-- (starts); and what is in G in DER is the same in BER (relaxed).
pub record IsPart {X : Type 0} (first apart : TagSet) (p : Parser X) (G : Mode → List ℕ → X
    → Type 0) : Type 0 where
  pub exact : (mode : Mode) → IsExact (NoneNext apart) (p mode) (G mode)
  pub starts : (mode : Mode) (octets : List ℕ) (x : X) → G mode octets x → Starts first apart octets
  pub relaxed : (octets : List ℕ) (x : X) → G Der octets x → G Ber octets x

-- Reading by q to the end is reading these parts of a record of which Known is known: the same
-- three.
pub record AreParts {Y : Type 0} (first : TagSet) (q : Parser Y) (parts : Mode → Y
    → List (List ℕ → Type 0)) (Known : Y → Type 0) : Type 0 where
  pub exact : (mode : Mode)
      → IsExact (λ rest. rest ≡ []) (q mode) (λ octets y. Parts (parts mode y) octets × Known y)
  pub starts : (mode : Mode) (octets : List ℕ) (y : Y) → Known y → Parts (parts mode y) octets
      → (tag : ℕ) → has first tag ≡ false → is_next tag octets ≡ false
  pub relaxed : (octets : List ℕ) (y : Y) → Known y → Parts (parts Der y) octets
      → Parts (parts Ber y) octets

-- p refuses what is malformed: where the tag of the form is next and the octets begin with nothing
-- in the form, p does not read past it as if it were absent.
abbrev pub RefusesMalformed : {X Y : Type 0} → ℕ → (Mode → List ℕ → X → Type 0) → Parser Y → Type 0
RefusesMalformed tag G p = (mode : Mode) (octets : List ℕ) → IsBytes octets
    → is_next tag octets ≡ true → HasNoFront (G mode) octets → p mode octets ≡ None
