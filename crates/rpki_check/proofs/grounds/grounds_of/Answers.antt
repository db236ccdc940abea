use Rattle.rpki_check.proofs.Asking.{grounded}
use Rattle.rpki_check.proofs.grounds.grounds_of.Goals as goal

pub returns-in-Ok : goal.returns-in-Ok
returns-in-Ok c =
    grounded c.args.question.now c.posed.result c.posed.ensures c.grounds_posed-grounds.result
    c.grounds_posed-grounds.ensures
