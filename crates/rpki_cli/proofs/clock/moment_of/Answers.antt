-- The moment of a day and a second of it.
use Rattle.std.proofs.Common.{◌≡◌, ℤ, sym, subst, ◌∙◌}
use Rattle.std.specs.Int.{FitsUnsignedBits}
use Rattle.std.proofs.lemmas.Bool.{true≢false}
use lib.IntN.{nat_abs}
use Rattle.jiff_core.specs.Calendar.{IsEpochDay}
use Rattle.rpki_cli.proofs.Clocks.{moment_in, is-moment, seconds-in, is-epoch_day, is-later, year-kept}
use Rattle.rpki_cli.proofs.Clocks.{year-negative, year-natural, moment-told, day-kept, second-kept}
use Rattle.rpki_cli.proofs.Clocks.{second-below}
use Rattle.rpki_cli.proofs.clock.moment_of.Goals as goal

pub returns-in_default : goal.returns-in_default
returns-in_default c = λ m i e.
    let n = c.args.second in
    let day = day-kept n c.div_euclid.result c.ranges.second c.div_euclid.ensures in
    true≢false (sym (c.in_default.ensures.succeeds.1
    (subst (λ (z : ℤ). IsEpochDay z) (sym day) (is-epoch_day m n i e))))

pub returns-in_default-try_from : goal.returns-in_default-try_from
returns-in_default-try_from c = λ m i e.
    let n = c.args.second in
    let d = c.in-Ok.date in
    let day = day-kept n c.div_euclid.result c.ranges.second c.div_euclid.ensures in
    let not = subst (λ (y : ℤ). FitsUnsignedBits 16 y → ⊥) (year-kept d.year d.year_in)
    c.in_default-try_from.ensures in
    is-later d m n (c.in-Ok.ensures.value ∙ day) (year-negative d.year d.year_in not) i e

pub returns : goal.returns
returns c =
    let n = c.args.second in
    let d = c.in-Ok.date in
    let day = day-kept n c.div_euclid.result c.ranges.second c.div_euclid.ensures in
    let kept = year-kept d.year d.year_in in
    let fits = subst (λ (y : ℤ). FitsUnsignedBits 16 y) kept c.in-Ok-try_from.ensures.0 in
    let abs = subst (λ (y : ℤ). c.in-Ok-try_from.year ≡ nat_abs y) kept
    c.in-Ok-try_from.ensures.1 in
    let year = year-natural d.year c.in-Ok-try_from.year fits abs in
    let second = second-kept n c.rem_euclid-second.result c.ranges.second
    c.rem_euclid-second.ensures.value in
    moment-told c.utc.result _ n c.utc.ensures.real
    (is-moment d c.in-Ok-try_from.year _ year (second-below n _ second))
    (seconds-in d c.in-Ok-try_from.year _ n year (c.in-Ok.ensures.value ∙ day) second)
