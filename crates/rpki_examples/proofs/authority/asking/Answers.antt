use Rattle.std.proofs.Common.{Result}
use Rattle.std.specs.Fn.{FnOnceReturnsAt}
use Rattle.rpki_der.specs.declared.mode.Mode.TheVariants.{Der}
use Rattle.rpki_faults.specs.declared.validation.ValidationError.{ValidationError}
use Rattle.rpki_certs.specs.Cert.{KeptCertificate}
use Rattle.rpki_sigobj.specs.Signed.{cert_in}
use Rattle.rpki_examples.proofs.ByList.{by-list}
use Rattle.rpki_examples.proofs.Published.{first-by-list}
use Rattle.rpki_examples.proofs.authority.asking.Goals as goal

pub object-requires : goal.object-requires
object-requires g c = λ o rest front all. c.requires (cert_in Der o)

pub returns-clause-first : goal.returns-clause-first
returns-clause-first g c = λ list means.
    first-by-list g.T.Content.kind (g.T.Content.form c.args.rule)
    (g.C.Crypto.digest_of c.args.crypto.now) (g.C.Crypto.is_signed c.args.crypto.now)
    c.args.issuer.now c.args.now c.args.octets list
    (λ (k : KeptCertificate) (said : Result (Unit {0}) ValidationError).
    FnOnceReturnsAt g.F.FnOnce c.args.ask k said) means c.object.result c.object.ensures.first

pub returns-clause-exact : goal.returns-clause-exact
returns-clause-exact g c = λ list means.
    by-list g.T.Content.kind (g.T.Content.form c.args.rule)
    (g.C.Crypto.digest_of c.args.crypto.now) (g.C.Crypto.is_signed c.args.crypto.now)
    c.args.issuer.now c.args.now c.args.octets list
    (λ (k : KeptCertificate) (said : Result (Unit {0}) ValidationError).
    FnOnceReturnsAt g.F.FnOnce c.args.ask k said) means c.object.result c.object.ensures.exact
