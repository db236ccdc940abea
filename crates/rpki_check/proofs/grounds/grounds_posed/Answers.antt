use Rattle.rpki_check.proofs.Asking.{unlocated}
use Rattle.rpki_check.proofs.grounds.grounds_posed.Goals as goal

pub told_as-requires : goal.told_as-requires
told_as-requires c = unlocated c.args.posed.now c.requires c.in-Err.refusal c.in-Err.ensures

pub returns-in-Err : goal.returns-in-Err
returns-in-Err c = (c.in-Err.refusal, c.in-Err.ensures, c.told_as.ensures)
