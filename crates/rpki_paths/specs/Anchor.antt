-- Where a path is anchored: at a trust anchor, or under a CA that was validated elsewhere.
use Rattle.std.specs.Prelude.{◌≡◌, ℕ, Bool, List, [], ◌∷◌, Some, IsTrue, ◌⊎◌}
use Rattle.rpki_resources.specs.declared.resources.Claim.{Claim}
use Rattle.rpki_resources.specs.declared.resources.Claim.TheVariants.{Inherit, Explicit}
use Rattle.rpki_faults.specs.declared.family.Family.{Family}
use Rattle.rpki_paths.specs.Cert.{Cert, Numbers, IsSelfSigned, IsIn}
use Rattle.rpki_paths.specs.Sets.{with_claim, meet, IsCovered}
use Rattle.rpki_paths.specs.Path.{explicit_sets}

-- A trust anchor locator, by its key, or a CA certificate, by its key identifier, its key and its
-- validated sets.
pub data Supply : Type 0 where
  Tal : (key : List ℕ) → Supply
  Ca : (ski key : List ℕ) → (Family → Numbers) → Supply

-- What a supply claims above a path: a CA its sets, as one more explicit claim; a locator an
-- inherited one, which adds no set.
abbrev pub supplied_claim : Supply → Family → Claim Numbers
supplied_claim (Tal key) f = Inherit
supplied_claim (Ca ski key sets) f = Explicit (sets f)

-- The supply is meant for this head: a locator for one that is self-signed and has its key; a CA
-- for one that is not self-signed, names it as its issuer, and is verified by its key. That a head is
-- looked up in no revocation list of the CA is this project's own rule.
abbrev pub Fits : Cert → Supply → Type 0
Fits head (Tal key) = IsSelfSigned head × (head.key ≡ key)
Fits head (Ca ski key sets) =
    ¬ (IsSelfSigned head) × (head.aki ≡ Some ski) × IsTrue (head.verifies key)

-- The certificate is a trust anchor, and its own key verifies it (RFC 8630, section 3).
abbrev pub IsAnchor : Cert → Type 0
IsAnchor c = IsTrue c.is_anchor × IsTrue (c.verifies c.key)

-- The path stands under the supply: where this is a locator, its head is a trust anchor; where it
-- is a CA, the sets of the CA cover what is below, where they have to.
abbrev pub Takes : List Cert → Supply → Type 0
Takes [] s = ⊥
Takes (head ∷ p) (Tal key) = IsAnchor head
Takes (head ∷ p) (Ca ski key sets) =
    (f : Family) →
    IsCovered (λ n. n) head.overclaim (explicit_sets (head ∷ p) f) (Explicit (sets f))

-- The supply is the first that fits the head of the path, and it takes the path.
abbrev pub IsAnchored : List Cert → List Supply → Supply → Type 0
IsAnchored [] supplies s = ⊥
IsAnchored (head ∷ p) [] s = ⊥
IsAnchored (head ∷ p) (t ∷ supplies) s =
    (Fits head t × Takes (head ∷ p) t × (s ≡ t))
    ⊎ (¬ (Fits head t) × IsAnchored (head ∷ p) supplies s)

-- One of the paths is anchored by none of the supplies.
abbrev pub HasUnanchored : List (List Cert) → List Supply → Type 0
HasUnanchored paths supplies =
    (p : List Cert) × IsIn p paths × ((s : Supply) → ¬ (IsAnchored p supplies s))

-- Whether an anchored path stands for the number: it lies in each explicit set on the path, those
-- of the supplied CA among them.
abbrev pub path_set : List Cert → Supply → Family → ℕ → Bool
path_set p s f n = meet (λ k. k) (with_claim (supplied_claim s f) (explicit_sets p f)) n
