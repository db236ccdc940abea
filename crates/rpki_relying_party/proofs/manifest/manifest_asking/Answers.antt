use Rattle.std.proofs.Common.{Result, Ok, ◌≡◌}
use Rattle.std.specs.Fn.{FnOnceReturnsAt}
use Rattle.rpki_basics.specs.declared.limits.ManifestRule.TheVariants.{Any}
use Rattle.rpki_der.specs.declared.mode.Mode.TheVariants.{Der}
use Rattle.rpki_faults.specs.declared.validation.ValidationError.{ValidationError}
use Rattle.rpki_certs.specs.Cert.{KeptCertificate}
use Rattle.rpki_files.specs.Manifest.{ManifestForm}
use Rattle.rpki_files.specs.Manifest.Checks.{manifest_kind}
use Rattle.rpki_sigobj.specs.Signed.{cert_in}
use Rattle.rpki_relying_party.proofs.Asking.{checked-as, said-as}
use Rattle.rpki_relying_party.proofs.manifest.manifest_asking.Goals as goal

pub manifest-requires : goal.manifest-requires
manifest-requires g c = λ o rest front all. c.requires (cert_in Der o)

pub returns-clause-first : goal.returns-clause-first
returns-clause-first g c = λ means.
    checked-as manifest_kind (ManifestForm Any Der) Der (g.C.Crypto.digest_of c.args.crypto.now)
    (g.C.Crypto.is_signed c.args.crypto.now) c.args.ca.now c.args.now c.args.octets
    (λ (k : KeptCertificate) (said : Result (Unit {0}) ValidationError).
    FnOnceReturnsAt g.F.FnOnce c.args.ask k said)
    (λ (k : KeptCertificate) (said : Result (Unit {0}) ValidationError). said ≡ Ok tt)
    means c.manifest.result c.manifest.ensures.first

pub returns-clause-exact : goal.returns-clause-exact
returns-clause-exact g c = λ means.
    said-as manifest_kind (ManifestForm Any Der) Der (g.C.Crypto.digest_of c.args.crypto.now)
    (g.C.Crypto.is_signed c.args.crypto.now) c.args.ca.now c.args.now c.args.octets
    (λ (k : KeptCertificate) (said : Result (Unit {0}) ValidationError).
    FnOnceReturnsAt g.F.FnOnce c.args.ask k said)
    (λ (k : KeptCertificate) (said : Result (Unit {0}) ValidationError). said ≡ Ok tt)
    means c.manifest.result c.manifest.ensures.exact
