use Rattle.rpki_check.proofs.Answered.{edition-tells}
use Rattle.rpki_check.proofs.exports.rpki_check_edition.Goals as goal

pub returns-clause-tells : goal.returns-clause-tells
returns-clause-tells c =
    edition-tells c.args.question.now c.args.object.now c.args.edition.now c.edition_in.new.edition
    c.args.room.now c.edition_in.new.room c.edition_in.new.len c.edition_in.result
    c.edition_in.ensures
