-- One beginning of the source at most is such an object.
use Rattle.rpki_show.specs.DatedRta.{dated_of}
use Rattle.rpki_show.proofs.Shown.{shown-refusal, shown-lines}
use Rattle.rpki_show.proofs.attestation.show_whole_rta.Goals as goal

pub returns-in-Err : goal.returns-in-Err
returns-in-Err c =
    shown-refusal _ _ _ _ _ c.in-Err.error c.refusal.ensures c.in-Err.ensures

pub returns-in-Ok : goal.returns-in-Ok
returns-in-Ok c =
    shown-lines _ _ _ _ _ (dated_of c.in-Ok.rta) c.in-Ok.ensures.0 c.in-Ok.ensures.1
    c.show_whole_lines-answer.ensures
