use Rattle.std.proofs.Common.{rules, subst}
use Rattle.rpki_certs.specs.Cert.{KeptCertificate}
use Rattle.rpki_sigobj.specs.Object.{mode_of}
use Rattle.rpki_validation.proofs.Grounded.{asking-more}
use Rattle.rpki_check.specs.Object.{ListsSay}
use Rattle.rpki_check.proofs.object.check_on.Goals as goal

pub returns : goal.returns
returns g c =
    asking-more g.T.Content.kind (g.T.Content.form (g.T.Lines.rule_in c.args.manner))
    (mode_of c.args.manner.strict) c.args.grounds.now (ListsSay c.args.grounds.now)
    (λ k said h. subst (λ (x : KeptCertificate). ListsSay c.args.grounds.now x said) h.2
    (search rules)) c.args.octets c.check_asking.result c.check_asking.ensures
