-- What a call that succeeded has read, and what follows it.
use Rattle.std.proofs.Common.{◌≡◌, List, ℕ, Option, Some, None, Ok}
use Rattle.std.specs.Prelude.{MatchOption}
use Rattle.rpki_der.specs.declared.error.DecodeError.{DecodeError}
use Rattle.rpki_der.specs.declared.mode.Mode.{Mode}
use Rattle.rpki_der.specs.Grammar.{Front, IsBytes}
use Rattle.rpki_der.specs.Form.Law.{TagSet, IsPart, nothing}
use Rattle.rpki_der.specs.Read.Parse.{Parser}
use Rattle.rpki_der.specs.Read.Reads.{Reads, Answers, RepeatsError}
use Rattle.rpki_der.specs.Read.State.{State}

module _ {T X : Type 0} (view : T → X) (p : Parser X) (old : State) (t : T) (new : State) where
  -- what it found
  pub found : Reads view p old (Ok t) new → p old.mode old.rest ≡ Some (view t, new.rest)
  found h = of old.failed h.1
    where
      of : (failed : Option DecodeError)
          → MatchOption failed (Answers view (p old.mode old.rest) (Ok t) new)
          (λ e. RepeatsError {T = T} e (Ok t)) → p old.mode old.rest ≡ Some (view t, new.rest)
      of None g = g.0
      of (Some e) g = absurd g

-- what stands in front, by the form
pub front : {T X : Type 0} {first : TagSet} {p : Parser X} {G : Mode → List ℕ → X → Type 0}
    (part : IsPart first nothing p G) (view : T → X) (old : State) (t : T) (new : State)
    → IsBytes old.rest → Reads view p old (Ok t) new
    → Front (G old.mode) old.rest (view t) new.rest
front {p = p} part view old t new bytes h =
    (part.exact old.mode).sound old.rest (view t) new.rest bytes (found view p old t new h)
