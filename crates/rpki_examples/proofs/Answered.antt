-- What follows from an answer, where it is a yes.
use Rattle.std.proofs.Common.{List, Result, Ok, Err}
use Rattle.std.specs.Prelude.{IfOk, IfErr, MatchResult}
use Rattle.rpki_faults.specs.Checks.{Check, AllHold, AnswersFirstOr}

-- all checks hold
pub of-a-yes : {T F : Type 0} (memory : F) (checks : List (Check F)) (Yes Q : T → Type 0)
    (r : Result T F) → ((t : T) → AllHold checks → Yes t → Q t)
    → AnswersFirstOr memory checks Yes r → IfOk r Q
of-a-yes memory checks Yes Q (Ok t) f h = f t h.0 h.1
of-a-yes memory checks Yes Q (Err e) f h = tt

-- both are so
pub of-both : {T F : Type 0} (P Q R : T → Type 0) (r : Result T F)
    → ((t : T) → P t → Q t → R t) → IfOk r P → IfOk r Q → IfOk r R
of-both P Q R (Ok t) f p q = f t p q
of-both P Q R (Err e) f p q = tt

-- a yes is so, and a refusal is so
pub of-either : {T F : Type 0} (P : T → Type 0) (Q : F → Type 0) (r : Result T F) → IfOk r P
    → IfErr r Q → MatchResult r P Q
of-either P Q (Ok t) p q = p
of-either P Q (Err e) p q = q
