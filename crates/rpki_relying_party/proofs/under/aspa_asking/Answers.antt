use Rattle.std.proofs.Common.{Result}
use Rattle.std.specs.Fn.{FnOnceReturnsAt}
use Rattle.rpki_der.specs.declared.mode.Mode.TheVariants.{Der}
use Rattle.rpki_faults.specs.declared.validation.ValidationError.{ValidationError}
use Rattle.rpki_certs.specs.Cert.{KeptCertificate}
use Rattle.rpki_routes.specs.Aspa.Form.{AspaForm}
use Rattle.rpki_routes.specs.Aspa.Checks.{aspa_kind}
use Rattle.rpki_sigobj.specs.Signed.{cert_in}
use Rattle.rpki_relying_party.specs.Under.{SaysOf}
use Rattle.rpki_relying_party.proofs.Asking.{checked-as, said-as}
use Rattle.rpki_relying_party.proofs.under.aspa_asking.Goals as goal

pub aspa-requires : goal.aspa-requires
aspa-requires g c = λ o rest front all. c.requires (cert_in Der o)

pub returns-clause-first : goal.returns-clause-first
returns-clause-first g c = λ list means.
    checked-as aspa_kind (AspaForm c.args.limit) Der (g.C.Crypto.digest_of c.args.crypto.now)
    (g.C.Crypto.is_signed c.args.crypto.now) c.args.issuer.now c.args.now c.args.octets
    (λ (k : KeptCertificate) (said : Result (Unit {0}) ValidationError).
    FnOnceReturnsAt g.F.FnOnce c.args.ask k said) (SaysOf list) means c.aspa.result
    c.aspa.ensures.first

pub returns-clause-exact : goal.returns-clause-exact
returns-clause-exact g c = λ list means.
    said-as aspa_kind (AspaForm c.args.limit) Der (g.C.Crypto.digest_of c.args.crypto.now)
    (g.C.Crypto.is_signed c.args.crypto.now) c.args.issuer.now c.args.now c.args.octets
    (λ (k : KeptCertificate) (said : Result (Unit {0}) ValidationError).
    FnOnceReturnsAt g.F.FnOnce c.args.ask k said) (SaysOf list) means c.aspa.result
    c.aspa.ensures.exact
