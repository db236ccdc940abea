use Rattle.std.proofs.Common.{◌≡◌, ℕ, List, [], Option, Some, Result, Ok, Err, refl}
use Rattle.std.proofs.Common.{sym, subst}
use Rattle.std.specs.Prelude.{MatchResult}
use Rattle.rpki_der.specs.declared.error.DecodeError.{DecodeError}
use Rattle.rpki_der.specs.declared.error.DecodeError.TheVariants.{Malformed, Content, Memory}
use Rattle.rpki_der.specs.declared.mode.Mode.TheVariants.{Der}
use Rattle.rpki_der.specs.Read.Reads.{Found}
use Rattle.rpki_der.specs.Write.Written.{length_octets}
use Rattle.rpki_basics.specs.Moment.{Moment}
use Rattle.rpki_basics.specs.Time.Read.{time_at}
use Rattle.rpki_basics.proofs.Times.Exact.{moment-true}
use Rattle.rpki_examples.proofs.values.earliest_utc_time.Goals as goal

-- what is answered where it is known what is found
known : (x : Moment) (rest : List ℕ) (found : Option (Moment × List ℕ))
    (result : Result Moment DecodeError) → found ≡ Some (x, rest)
    → Found (λ (t : Moment). t) found result
    → MatchResult result (λ t. t ≡ x) (λ e. e ≡ Memory)
known x rest found result e h = of result (subst (λ f. Found (λ (t : Moment). t) f result) e h)
  where
    of : (r : Result Moment DecodeError) → Found (λ (t : Moment). t) (Some (x, rest)) r
        → MatchResult r (λ t. t ≡ x) (λ e. e ≡ Memory)
    of (Ok t) h = h
    of (Err Malformed) h = cc
    of (Err (Content fault)) h = cc
    of (Err Memory) h = refl

abbrev first : Moment
first = record { year = 1950; month = 1; day = 1; hour = 0; minute = 0; second = 0 }

pub returns : goal.returns
unfolding length_octets
returns c =
    known first [] (time_at Der c.from_static.result) c.read_time.result
    (subst (λ (o : List ℕ). time_at Der o ≡ Some (first, [])) (sym c.from_static.ensures)
    (c.times_are_written.ensures.read Der first [] (moment-true first refl)))
    c.read_time.ensures
