use Rattle.std.proofs.Common.{subst}
use Rattle.rpki_check.specs.Calls.{IsShowCall}
use Rattle.rpki_validation.specs.declared.question.Manner.{Manner}
use Rattle.rpki_check.proofs.exports.rpki_check_show.Goals as goal

pub returns : goal.returns
returns c =
    subst (λ (m : Manner). IsShowCall m c.args.kind c.args.object.now c.args.room.now
    c.show_asked.new.room c.show_asked.new.len c.show_asked.result) c.manner_of.ensures
    c.show_asked.ensures
