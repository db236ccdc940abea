use Rattle.std.proofs.Common.{◌≡◌, ◌≤◌, None, Some, length, arith, refl, sym, ◌∙◌}
use Rattle.std.proofs.lemmas.Grind.{common_steps}
use Rattle.rpki_der.specs.Read.Parse.{skip_at, all_of, there}
use Rattle.rpki_der.proofs.Reading.Skips.{there-more, there-none, there-end, skip-takes}
use Rattle.rpki_der.proofs.read.skip.are_skipped.Goals as goal

pub returns-in-None : goal.returns-in-None
returns-in-None c =
    let some : 1 ≤ length c.loop-rest.rest.now = grind (arith, common_steps) in
    let none : there (all_of (skip_at 32) c.args.mode c.args.bytes.now) ≡ None =
    sym c.loop-rest.invariant
    ∙ there-none (skip_at 32) c.args.mode
    (skip-takes 32 c.args.mode) c.loop-rest.rest.now some c.in-None.ensures in
    rw none refl

pub loop-rest-smaller : goal.loop-rest-smaller
loop-rest-smaller c =
    (skip-takes 32 c.args.mode).at c.loop-rest.rest.now tt c.in-Some.after.now c.in-Some.ensures

pub loop-rest-preserved : goal.loop-rest-preserved
loop-rest-preserved c =
    sym (there-more (skip_at 32) c.args.mode
    (skip-takes 32 c.args.mode) c.loop-rest.rest.now tt c.in-Some.after.now c.in-Some.ensures)
    ∙ c.loop-rest.invariant

pub returns : goal.returns
returns c =
    let none : length c.loop-rest.rest.now ≡ 0 = grind (arith, common_steps) in
    let all : there (all_of (skip_at 32) c.args.mode c.args.bytes.now) ≡ Some tt =
    sym c.loop-rest.invariant
    ∙ there-end (skip_at 32) c.args.mode
    (skip-takes 32 c.args.mode) c.loop-rest.rest.now none in
    rw all refl
