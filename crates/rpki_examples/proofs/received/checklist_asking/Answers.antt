use Rattle.std.proofs.Common.{Result}
use Rattle.std.specs.Fn.{FnOnceReturnsAt}
use Rattle.rpki_der.specs.declared.mode.Mode.TheVariants.{Der}
use Rattle.rpki_faults.specs.declared.validation.ValidationError.{ValidationError}
use Rattle.rpki_certs.specs.Cert.{KeptCertificate}
use Rattle.rpki_files.specs.Checklist.{ChecklistForm}
use Rattle.rpki_files.specs.Checklist.Checks.{checklist_kind}
use Rattle.rpki_sigobj.specs.Signed.{cert_in}
use Rattle.rpki_examples.proofs.ByList.{by-list}
use Rattle.rpki_examples.proofs.received.checklist_asking.Goals as goal

pub rsc-requires : goal.rsc-requires
rsc-requires g c = λ o rest front all. c.requires (cert_in Der o)

pub returns : goal.returns
returns g c = λ list means.
    by-list checklist_kind (ChecklistForm Der) (g.C.Crypto.digest_of c.args.crypto.now)
    (g.C.Crypto.is_signed c.args.crypto.now) c.args.issuer.now c.args.now c.args.octets list
    (λ (k : KeptCertificate) (said : Result (Unit {0}) ValidationError).
    FnOnceReturnsAt g.F.FnOnce c.args.ask k said) means c.rsc.result c.rsc.ensures.exact
