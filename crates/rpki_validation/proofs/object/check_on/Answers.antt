use Rattle.std.proofs.Common.{rules}
use Rattle.rpki_sigobj.specs.Object.{mode_of}
use Rattle.rpki_validation.specs.Object.{passes}
use Rattle.rpki_validation.proofs.Grounded.{asking-more}
use Rattle.rpki_validation.proofs.object.check_on.Goals as goal

pub returns : goal.returns
returns g c =
    asking-more g.T.Content.kind (g.T.Content.form (g.T.Lines.rule_in c.args.manner))
    (mode_of c.args.manner.strict) c.args.grounds.now passes (λ k said h. search rules)
    c.args.octets c.check_asking.result c.check_asking.ensures
