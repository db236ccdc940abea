use Rattle.std.proofs.Common.{Result, subst}
use Rattle.std.specs.Fn.{FnOnceReturnsAt}
use Rattle.rpki_faults.specs.declared.validation.ValidationError.{ValidationError}
use Rattle.rpki_certs.specs.Cert.{KeptCertificate}
use Rattle.rpki_sigobj.specs.Object.{mode_of}
use Rattle.rpki_sigobj.specs.Signed.{cert_in}
use Rattle.rpki_validation.specs.Object.{ChecksAsking}
use Rattle.rpki_validation.proofs.object.check_asking.Goals as goal

pub object-requires : goal.object-requires
object-requires g c = λ o rest front all. c.requires (cert_in (mode_of c.args.manner.strict) o)

pub returns : goal.returns
returns g c =
    let Says : KeptCertificate → Result (Unit {0}) ValidationError → Type 0 = λ k said.
    FnOnceReturnsAt g.F.FnOnce c.args.ask k said in
    subst (λ rule. ChecksAsking g.T.Content.kind (g.T.Content.form rule)
    (mode_of c.args.manner.strict) c.args.grounds.now Says c.args.octets c.object.result)
    c.rule-rule.ensures (record { first = c.object.ensures.first; exact = c.object.ensures.exact })
