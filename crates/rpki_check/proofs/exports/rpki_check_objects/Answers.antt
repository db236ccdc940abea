use Rattle.std.proofs.Common.{ℕ, subst}
use Rattle.rpki_check.specs.Many.{IsManyCall}
use Rattle.rpki_check.proofs.Answered.{objects-tell}
use Rattle.rpki_check.proofs.exports.rpki_check_objects.Goals as goal

pub returns-clause-tells : goal.returns-clause-tells
returns-clause-tells c = λ e.
    objects-tell c.args.question.now c.args.objects.now c.args.room.now c.judge.new.room
    c.judge.new.count
    (subst (λ (answer : ℕ). IsManyCall c.args.question.now c.args.objects.now c.args.room.now
    c.judge.new.room c.judge.new.count answer) e c.judge.ensures)
