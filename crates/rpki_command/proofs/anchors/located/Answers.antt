use Rattle.rpki_command.proofs.Located.{no-anchor}
use Rattle.rpki_command.proofs.anchors.located.Goals as goal

pub returns-in-Err : goal.returns-in-Err
returns-in-Err c =
    no-anchor c.args.octets.now c.in-Err.error c.fault_of.result c.fault_of.ensures c.in-Err.ensures
