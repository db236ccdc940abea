use Rattle.rpki_routes.specs.Roa.Checks.{roa_kind}
use Rattle.rpki_routes.specs.Roa.Form.{RoaForm}
use Rattle.rpki_check.specs.Rows.{payloads}
use Rattle.rpki_check.proofs.Answered.{rows-tell}
use Rattle.rpki_check.proofs.exports.rpki_check_roa.Goals as goal

pub returns-clause-tells : goal.returns-clause-tells
returns-clause-tells c =
    rows-tell roa_kind (λ q. RoaForm) payloads c.args.question.now c.args.object.now c.args.room.now
    c.rows_in.new.room c.rows_in.new.count c.rows_in.result c.rows_in.ensures
