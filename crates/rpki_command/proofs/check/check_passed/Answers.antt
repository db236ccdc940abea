use Rattle.std.proofs.Common.{Result, subst}
use Rattle.std.specs.Fn.{FnOnceReturnsAt}
use Rattle.rpki_faults.specs.declared.validation.ValidationError.{ValidationError}
use Rattle.rpki_certs.specs.Cert.{KeptCertificate}
use Rattle.rpki_signed.specs.Check.{Checks}
use Rattle.rpki_signed.specs.Exact.{IsExact}
use Rattle.rpki_sigobj.specs.Signed.{cert_in}
use Rattle.rpki_show.specs.Options.{read_mode}
use Rattle.rpki_command.specs.Check.{passes}
use Rattle.rpki_command.proofs.Checking.{first-more, exact-more}
use Rattle.rpki_command.proofs.check.check_passed.Goals as goal

pub object-requires : goal.object-requires
object-requires g c = λ o rest front all. c.requires.takes (cert_in (read_mode c.args.options) o)

pub returns-clause-first : goal.returns-clause-first
returns-clause-first g c =
    let digest = g.K.Crypto.digest_of c.args.crypto.now in
    let verdict = g.K.Crypto.is_signed c.args.crypto.now in
    first-more g.C.Content.kind (g.C.Content.form (g.C.Lines.rule_of c.args.options))
    (read_mode c.args.options) digest verdict c.args.issuer.now c.args.now
    (λ (k : KeptCertificate) (said : Result (Unit {0}) ValidationError).
    FnOnceReturnsAt g.F.FnOnce c.args.check_crl k said) passes
    (λ k said h. c.requires.says k said h) c.args.octets c.object.result
    (subst (λ rule. Checks g.C.Content.kind (g.C.Content.form rule) (read_mode c.args.options)
    digest verdict c.args.issuer.now c.args.now
    (λ (k : KeptCertificate) (said : Result (Unit {0}) ValidationError).
    FnOnceReturnsAt g.F.FnOnce c.args.check_crl k said) c.args.octets c.object.result)
    c.rule-rule.ensures c.object.ensures.first)

pub returns-clause-exact : goal.returns-clause-exact
returns-clause-exact g c =
    let digest = g.K.Crypto.digest_of c.args.crypto.now in
    let verdict = g.K.Crypto.is_signed c.args.crypto.now in
    exact-more g.C.Content.kind (g.C.Content.form (g.C.Lines.rule_of c.args.options))
    (read_mode c.args.options) digest verdict c.args.issuer.now c.args.now
    (λ (k : KeptCertificate) (said : Result (Unit {0}) ValidationError).
    FnOnceReturnsAt g.F.FnOnce c.args.check_crl k said) passes
    (λ k said h. c.requires.says k said h) c.args.octets c.object.result
    (subst (λ rule. IsExact g.C.Content.kind (g.C.Content.form rule) (read_mode c.args.options)
    digest verdict c.args.issuer.now c.args.now
    (λ (k : KeptCertificate) (said : Result (Unit {0}) ValidationError).
    FnOnceReturnsAt g.F.FnOnce c.args.check_crl k said) c.args.octets c.object.result)
    c.rule-rule.ensures c.object.ensures.exact)
