use Rattle.std.proofs.Common.{List, map, ap, ◌∙◌, subst}
use Rattle.rpki_paths.specs.Anchor.{Supply}
use Rattle.rpki_rta.specs.Refused.{supply_in}
use Rattle.rpki_cli.specs.Answer.{said}
use Rattle.rpki_command.specs.Rta.{AttestedUnder}
use Rattle.rpki_command.proofs.rta.check_anchored.Goals as goal

pub returns-in-Ok : goal.returns-in-Ok
returns-in-Ok g c =
    subst (λ (supplied : List Supply). AttestedUnder
    g.K.Crypto.digest_of g.K.Crypto.is_signed c.args.crypto.now c.args.now supplied
    c.args.object.now (said c.check_supplied.result))
    (ap (map supply_in) c.deref.ensures.value ∙ c.in-Ok.ensures) c.check_supplied.ensures
