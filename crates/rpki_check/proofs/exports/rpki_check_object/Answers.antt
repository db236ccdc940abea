use Rattle.rpki_check.proofs.Answered.{object-tells}
use Rattle.rpki_check.proofs.exports.rpki_check_object.Goals as goal

pub returns-clause-tells : goal.returns-clause-tells
returns-clause-tells c =
    object-tells c.args.question.now c.args.kind c.args.object.now c.args.room.now
    c.report_asked.new.room c.report_asked.new.len c.report_asked.result c.report_asked.ensures
