-- What a capture answers.
use Rattle.std.specs.Prelude.{MatchOption}
use Rattle.std.proofs.Common.{◌≡◌, Option, Some, None, Result, Err, subst, refl}
use Rattle.rpki_der.specs.declared.error.DecodeError.{DecodeError}
use Rattle.rpki_der.specs.Read.State.{State, failing}
use Rattle.rpki_der.specs.Read.Reads.{CapturesWith, IsAgain}
use Rattle.rpki_der.specs.Read.Reads.{not_failed}

none-case : (P : Type 0) (Q : DecodeError → Type 0) (f : Option DecodeError) → f ≡ None → P
    → MatchOption f P Q
none-case P Q None e p = p
none-case P Q (Some d) e p = absurd cc

-- the closure answered an error
pub capture_with-fails : {T : Type 0} (step : State → Result T DecodeError → State → Type 0)
    (old now : State)
    (r : Result T DecodeError) (after : State) (e d : DecodeError) (mid new : State)
    → old.failed ≡ None → now ≡ old → step now r after → Err e ≡ not_failed r after
    → mid.mode ≡ after.mode
    → IsAgain e d → new ≡ failing mid d → CapturesWith step old (Err d) new
capture_with-fails step old now r after e d mid new f same s is m again n =
    none-case _ _ old.failed f
    (r, after, subst (λ (t : State). step t r after) same s, rw (← is) (again, rw n refl, rw n m))
