-- What it means that a parser reads a grammar exactly.
use Rattle.std.specs.Prelude.{◌≡◌, ◌↔◌, ℕ, false, List, ◌++◌, Option, None, Some}
use Rattle.rpki_der.specs.declared.mode.Mode.{Mode}
use Rattle.rpki_der.specs.declared.mode.Mode.TheVariants.{Der, Ber}
use Rattle.rpki_der.specs.Grammar.{Value, Front, IsBytes, IsUnique}
use Rattle.rpki_der.specs.Read.Parse.{Parser, optional, is_next}

-- What p finds of octets is a front of them in G, whatever follows it (sound). What is in G it
-- finds at the front, where what follows meets ends (complete).
pub record IsExact {X : Type 0} (ends : List ℕ → Type 0) (p : List ℕ → Option (X × List ℕ))
    (G : List ℕ → X → Type 0) : Type 0 where
  pub sound : (octets : List ℕ) (x : X) (rest : List ℕ) → IsBytes octets → p octets ≡ Some (x, rest)
      → Front G octets x rest
  pub complete : (front : List ℕ) (x : X) (rest : List ℕ) → ends rest → G front x
      → p (front ++ rest) ≡ Some (x, rest)

-- what may follow a value: any octets at all
abbrev pub anything : List ℕ → Type 0
anything rest = Unit {0}

-- Reading by p is reading by the grammar G: what it finds is in G, and what is in G it finds,
-- whatever octets follow (exact); no octets in G are the beginning of others in G (unique); what is
-- in G in DER is the same in BER (relaxed); one whole value that is refused alone is refused
-- whatever octets follow it (refused).
pub record IsReading {X : Type 0} (p : Parser X) (G : Mode → List ℕ → X → Type 0) : Type 0 where
  pub exact : (mode : Mode) → IsExact anything (p mode) (G mode)
  pub unique : (mode : Mode) → IsUnique (G mode)
  pub relaxed : (octets : List ℕ) (x : X) → G Der octets x → G Ber octets x
  pub refused : (mode : Mode) (octets contents more : List ℕ) (tag : ℕ) → IsBytes octets
      → IsBytes more → Value mode octets tag contents → p mode octets ≡ None
      → p mode (octets ++ more) ≡ None

-- Reading by p, where a value with this tag is next, is reading by G: what is found is in G
-- (found), what is in G is found, whatever octets follow (read), nothing is read exactly where no
-- such value is next (absent), and what is found in DER is found in BER (relaxed).
pub record IsOptionalReading {X : Type 0} (tag : ℕ) (p : Parser X) (G : Mode → List ℕ → X
    → Type 0) : Type 0 where
  pub found : (mode : Mode) (octets : List ℕ) (x : X) (rest : List ℕ) → IsBytes octets
      → optional tag p mode octets ≡ Some (Some x, rest) → Front (G mode) octets x rest
  pub read : (mode : Mode) (front : List ℕ) (x : X) (rest : List ℕ) → G mode front x
      → optional tag p mode (front ++ rest) ≡ Some (Some x, rest)
  pub absent : (mode : Mode) (octets rest : List ℕ)
      → (optional tag p mode octets ≡ Some (None, rest)) ↔
      ((rest ≡ octets) × (is_next tag octets ≡ false))
  pub relaxed : (octets : List ℕ) (x : Option X) (rest : List ℕ) → IsBytes octets
      → optional tag p Der octets ≡ Some (x, rest) → optional tag p Ber octets ≡ Some (x, rest)
