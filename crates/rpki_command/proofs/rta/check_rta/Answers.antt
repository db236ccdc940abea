use Rattle.std.proofs.Common.{List, map, Ok, Err, subst}
use Rattle.rpki_cli.specs.Answer.{said}
use Rattle.rpki_command.specs.Rta.{supply_of, AttestedUnder}
use Rattle.rpki_command.specs.declared.anchors.Anchor.{Anchor}
use Rattle.rpki_command.proofs.rta.check_rta.Goals as goal

pub returns-in-Err : goal.returns-in-Err
returns-in-Err g c = (Err c.in-Err.error, c.in-Err.ensures, c.refused_anchor.ensures)

pub returns-in-Ok : goal.returns-in-Ok
returns-in-Ok g c = (
  Ok c.in-Ok.anchors,
  c.in-Ok.ensures,
  subst (λ (anchors : List Anchor). AttestedUnder
      g.K.Crypto.digest_of g.K.Crypto.is_signed c.args.crypto.now c.args.now
      (map supply_of anchors) c.args.object.now (said c.check_anchored-answer.result))
      c.deref.ensures.value c.check_anchored-answer.ensures,
)
