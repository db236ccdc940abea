-- A form that is narrower than another one.
use Rattle.std.proofs.Common.{ℕ, List, subst}
use Rattle.rpki_der.specs.declared.error.DecodeError.{DecodeError}
use Rattle.rpki_der.specs.declared.error.DecodeError.TheVariants.{Malformed, Content, Memory}
use Rattle.rpki_der.specs.Form.Decodes.{IsOnlyFront}
use Rattle.rpki_der.specs.Grammar.{HasNoFront}
use Rattle.rpki_der.specs.Read.Reads.{Refuses}

module _ {X : Type 0} (form : List ℕ → X → Type 0) (Holds : X → Type 0) (octets : List ℕ) where
  -- what is in the form, and of which this holds
  abbrev pub Narrow : List ℕ → X → Type 0
  Narrow o x = form o x × Holds x

  -- the front of which it holds is the only one
  pub narrow-found : (x : X) (rest : List ℕ) → Holds x → IsOnlyFront form octets x rest
      → IsOnlyFront Narrow octets x rest
  narrow-found x rest holds h = record {
    found = (h.found.0, h.found.1, (h.found.2, holds));
    only = λ y other f. h.only y other (f.0, f.1, f.2.0);
  }

  -- where there is no front, there is none of which it holds
  pub narrow-refuses : (e : DecodeError) → Refuses e (HasNoFront form octets)
      → Refuses e (HasNoFront Narrow octets)
  narrow-refuses Memory h = tt
  narrow-refuses Malformed h = λ y other f. h y other (f.0, f.1, f.2.0)
  narrow-refuses (Content fault) h = λ y other f. h y other (f.0, f.1, f.2.0)

  -- where it does not hold of the only front, there is none of which it does
  pub other-refused : (x : X) (rest : List ℕ) → (Holds x → ⊥) → IsOnlyFront form octets x rest
      → HasNoFront Narrow octets
  other-refused x rest fails h = λ y other f.
      let same = h.only y other (f.0, f.1, f.2.0) in
      fails (subst Holds same.0 f.2.1)
