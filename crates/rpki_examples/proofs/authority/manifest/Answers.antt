use Rattle.std.proofs.Common.{ℕ, List, refl, subst, sym}
use Rattle.rpki_basics.specs.declared.limits.ManifestRule.TheVariants.{Registered}
use Rattle.rpki_faults.specs.Checks.{AllHold}
use Rattle.rpki_certs.specs.Validate.{Validated}
use Rattle.rpki_sigobj.specs.Signed.{KeptWhole, Whole, whole_of}
use Rattle.rpki_sigobj.specs.Validate.{object_validation}
use Rattle.rpki_signing.specs.Built.{Settings, IsBuilt, IsFit}
use Rattle.rpki_signing.proofs.Answered.{counts-of}
use Rattle.rpki_files.specs.Manifest.{Manifest, manifest_octets}
use Rattle.rpki_files.specs.Manifest.Checks.{ct_manifest, manifest_kind}
use Rattle.rpki_files.specs.Manifest.Signed.{inheriting}
use Rattle.rpki_examples.specs.Authority.{IsIssuedManifest, checking}
use Rattle.rpki_examples.proofs.Published.{faulty-as, published-as}
use Rattle.rpki_examples.proofs.Published.{same-issuer, signed-fits, signed-unrevoked}
use Rattle.rpki_examples.proofs.authority.manifest.Goals as goal

pub published-requires : goal.published-requires
published-requires g c = c.in-Ok.ensures.form Registered c.requires

pub returns-in-Err-published-clause-passes : goal.returns-in-Err-published-clause-passes
returns-in-Err-published-clause-passes g c = λ takes timely.
    let by = checking g.C.Crypto.digest_of g.C.Crypto.is_signed c.args.check.now in
    let may = g.S.Signer.may_sign c.args.signer.now in
    let made = g.S.Crypto.digest_of c.args.signer.now in
    let key : List ℕ = g.S.Signer.key_of c.args.signer.now c.args.key.now in
    let handed : Settings = c.args.told in
    let told : Settings = inheriting handed in
    let octets : List ℕ = manifest_octets c.args.content in
    let o : Whole Manifest = whole_of c.in-Ok.object in
    let s = o.object.signed in
    let built : IsBuilt told key ct_manifest octets (by.digest octets) s =
    subst (λ (d : List ℕ). IsBuilt told key ct_manifest octets d s) (takes.digests octets)
    c.in-Ok.ensures.built in
    let law = c.built_manifests_are_valid.ensures in
    let same = same-issuer _ _ c.check.view_is in
    c.in-Err-published.ensures.passes (record {
      before = subst (λ (v : Validated).
          AllHold (object_validation by.digest by.verdict s v by.moment)) same
          (law.valid by.digest by.verdict handed key octets s by.moment built
          (subst (λ (v : Validated). IsFit by.verdict told key s v by.moment) (sym same)
          (signed-fits may made by handed told key ct_manifest octets (by.digest octets) s timely
          takes refl refl c.in-Ok.ensures.signatures (law.named handed)
          (law.allowed handed by.issuer.sets))));
      held = λ v certificate. tt;
    }) (signed-unrevoked may made by handed told key ct_manifest octets (by.digest octets) s timely
    refl built)

pub returns-in-Err-clause-cause : goal.returns-in-Err-clause-cause
returns-in-Err-clause-cause g c =
    counts-of (KeptWhole Manifest) (List ℕ) _ _ c.in-Err.error c.in-Err.ensures.cause

pub returns-in-Ok-published-clause-good : goal.returns-in-Ok-published-clause-good
returns-in-Ok-published-clause-good g c =
    published-as manifest_kind (checking g.C.Crypto.digest_of g.C.Crypto.is_signed c.args.check.now)
    c.in-Ok.object.content c.args.content c.in-Ok.object.object.object.signed
    (IsIssuedManifest (g.S.Signer.may_sign c.args.signer.now) (g.S.Signer.is_one_off c.args.signer.now)
    (g.S.Signer.key_of c.args.signer.now c.args.key.now) (g.S.Crypto.digest_of c.args.signer.now)
    c.args.content c.args.told) c.in-Ok.ensures.content (record {
      built = c.in-Ok.ensures.built;
      signatures = c.in-Ok.ensures.signatures;
      one_off = c.in-Ok.ensures.one_off;
    }) _ c.in-Ok-published.octets c.in-Ok-published.ensures.good

pub returns-in-Err-published-clause-refused : goal.returns-in-Err-published-clause-refused
returns-in-Err-published-clause-refused g c =
    faulty-as manifest_kind (checking g.C.Crypto.digest_of g.C.Crypto.is_signed c.args.check.now)
    c.in-Ok.object.content c.args.content c.in-Ok.object.object.object.signed
    (IsIssuedManifest (g.S.Signer.may_sign c.args.signer.now) (g.S.Signer.is_one_off c.args.signer.now)
    (g.S.Signer.key_of c.args.signer.now c.args.key.now) (g.S.Crypto.digest_of c.args.signer.now)
    c.args.content c.args.told) c.in-Ok.ensures.content (record {
      built = c.in-Ok.ensures.built;
      signatures = c.in-Ok.ensures.signatures;
      one_off = c.in-Ok.ensures.one_off;
    }) c.in-Err-published.error c.in-Err-published.ensures.refused
