use Rattle.rpki_routes.specs.Aspa.Checks.{aspa_kind}
use Rattle.rpki_routes.specs.Aspa.Form.{AspaForm}
use Rattle.rpki_check.specs.Grounds.{manner_in}
use Rattle.rpki_check.specs.Rows.{numbers}
use Rattle.rpki_check.proofs.Answered.{rows-tell}
use Rattle.rpki_check.proofs.exports.rpki_check_aspa.Goals as goal

pub returns-clause-tells : goal.returns-clause-tells
returns-clause-tells c =
    rows-tell aspa_kind (λ q. AspaForm (manner_in q).limit) numbers c.args.question.now
    c.args.object.now c.args.room.now c.rows_in.new.room c.rows_in.new.count c.rows_in.result
    c.rows_in.ensures
