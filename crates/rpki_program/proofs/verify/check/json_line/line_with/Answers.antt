use Rattle.rpki_program.proofs.Lined.{lined}
use Rattle.rpki_program.proofs.verify.check.json_line.line_with.Goals as goal

pub returns-in-Ok : goal.returns-in-Ok
returns-in-Ok c = lined c.object_line.result _ c.args.name.now c.args.valid c.in-Ok.ensures.file
    c.in-Ok.ensures.valid c.object_line.ensures
