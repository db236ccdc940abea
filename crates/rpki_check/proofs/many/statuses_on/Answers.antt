use Rattle.std.proofs.Common.{◌+◌, ℕ, List, subst, sym, take}
use Rattle.std.specs.List.{AllZip}
use Rattle.std.proofs.lemmas.List.{take_all}
use Rattle.rpki_check.specs.Many.{IsStatusOn}
use Rattle.rpki_check.specs.declared.many.Object.{Object}
use Rattle.rpki_validation.proofs.Steps.{zip-more}
use Rattle.rpki_check.proofs.many.statuses_on.Goals as goal

pub loop-object-preserved : goal.loop-object-preserved
loop-object-preserved c =
    let l = c.loop-object in
    let R : Object → ℕ → Type 0 = IsStatusOn c.args.manner c.args.grounds.now in
    subst (λ (statuses : List ℕ). AllZip R (take (l.object-index + 1) c.args.objects.now) statuses)
    (sym {A = List ℕ} c.in_ok-push.ensures.items)
    (zip-more R c.args.objects.now l.statuses.items l.object-index _ c.status_on.result
    c.loop-object-test.true l.invariant c.status_on.ensures)

pub returns : goal.returns
returns c =
    subst (λ (os : List Object). AllZip (IsStatusOn c.args.manner c.args.grounds.now) os
    c.loop-object.statuses.items)
    (take_all c.loop-object.object-index c.args.objects.now c.loop-object-test.false)
    c.loop-object.invariant
