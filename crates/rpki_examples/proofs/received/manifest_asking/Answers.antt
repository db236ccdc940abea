use Rattle.std.proofs.Common.{Result}
use Rattle.std.specs.Fn.{FnOnceReturnsAt}
use Rattle.rpki_der.specs.declared.mode.Mode.TheVariants.{Der}
use Rattle.rpki_faults.specs.declared.validation.ValidationError.{ValidationError}
use Rattle.rpki_certs.specs.Cert.{KeptCertificate}
use Rattle.rpki_basics.specs.declared.limits.ManifestRule.TheVariants.{Registered}
use Rattle.rpki_files.specs.Manifest.{ManifestForm}
use Rattle.rpki_files.specs.Manifest.Checks.{manifest_kind}
use Rattle.rpki_sigobj.specs.Signed.{cert_in}
use Rattle.rpki_examples.proofs.ByList.{by-list}
use Rattle.rpki_examples.proofs.received.manifest_asking.Goals as goal

pub manifest-requires : goal.manifest-requires
manifest-requires g c = λ o rest front all. c.requires (cert_in Der o)

pub returns : goal.returns
returns g c = λ list means.
    by-list manifest_kind (ManifestForm Registered Der) (g.C.Crypto.digest_of c.args.crypto.now)
    (g.C.Crypto.is_signed c.args.crypto.now) c.args.issuer.now c.args.now c.args.octets list
    (λ (k : KeptCertificate) (said : Result (Unit {0}) ValidationError).
    FnOnceReturnsAt g.F.FnOnce c.args.ask k said) means c.manifest.result c.manifest.ensures.exact
