-- What an authority of the stand-in makes and publishes.
use Rattle.std.specs.Prelude.{◌≡◌, ◌≤◌, ◌⊎◌, ℕ, List, [], ◌∷◌, Any}
use Rattle.sha2.specs.Sha256.{sha256}
use Rattle.rpki_basics.specs.Moment.{Moment, stamp}
use Rattle.rpki_basics.specs.StandIn.{IsStandInKey, IsStandInSignature, is_stand_in_signature}
use Rattle.rpki_basics.specs.declared.limits.ManifestRule.TheVariants.{Registered}
use Rattle.rpki_basics.specs.declared.limits.ProviderLimit.{ProviderLimit}
use Rattle.rpki_basics.specs.declared.signing.SigningError.{SigningError}
use Rattle.rpki_resources.specs.As.Form.{only}
use Rattle.rpki_resources.specs.Blocks.{Covers}
use Rattle.rpki_faults.specs.Checks.{AllHold}
use Rattle.rpki_faults.specs.Validated.{IsAllowed}
use Rattle.rpki_faults.specs.declared.overclaim.Overclaim.TheVariants.{Refuse}
use Rattle.rpki_der.specs.declared.mode.Mode.TheVariants.{Der}
use Rattle.rpki_crls.specs.Crl.{IsSignedBy}
use Rattle.rpki_certs.specs.Inspect.{ta_checks}
use Rattle.rpki_certs.specs.Validate.{AreClaimed, Sets}
use Rattle.rpki_certs.specs.Verify.{IsInTime}
use Rattle.rpki_issued.specs.Tbs.{IsNotSigned, Unsigned, tbs_of}
use Rattle.rpki_issued_crls.specs.Lists.{IsNotIssued, UnsignedList, made_list, name_of, serial_of}
use Rattle.rpki_signing.specs.Built.{Settings}
use Rattle.rpki_files.specs.Manifest.{Manifest, ManifestForm}
use Rattle.rpki_files.specs.Manifest.Checks.{manifest_kind}
use Rattle.rpki_files.specs.Manifest.Signed.{IsNotSigned as IsNotSignedManifest}
use Rattle.rpki_routes.specs.Aspa.{Aspa}
use Rattle.rpki_routes.specs.Aspa.Checks.{aspa_kind}
use Rattle.rpki_routes.specs.Aspa.Form.{AspaForm}
use Rattle.rpki_routes.specs.Aspa.Signed.{IsNotBuiltAspa}
use Rattle.rpki_routes.specs.Aspa.Written.{aspa_octets}
use Rattle.rpki_routes.specs.Roa.{Roa}
use Rattle.rpki_routes.specs.Roa.Checks.{RoaCovered, roa_kind}
use Rattle.rpki_routes.specs.Roa.Form.{RoaForm}
use Rattle.rpki_routes.specs.Roa.Signed.{IsNotBuiltRoa}
use Rattle.rpki_routes.specs.Roa.Written.{roa_octets}
use Rattle.rpki_signed.specs.declared.check.CheckError.{CheckError}
use Rattle.rpki_examples.specs.Authority.{Checking, Desk, IsIssuedAspa, IsIssuedManifest}
use Rattle.rpki_examples.specs.Authority.{IsIssuedRoa, IsMadeAnchor, IsNotPublished, IsPublished}
use Rattle.rpki_examples.specs.Authority.{IsTimely, IsWantOfMemory}
use Rattle.rpki_examples.specs.declared.authority.IssueError.{IssueError}
use Rattle.rpki_examples.specs.declared.publication.Objects.{Objects}
use Rattle.rpki_examples.specs.declared.publication.Plan.{Plan}
use Rattle.rpki_examples.specs.declared.publication.Publication.{Publication}
use Rattle.rpki_examples.specs.declared.publication.Published.{Published}
use Rattle.rpki_examples.specs.declared.publication.ToSign.{ToSign}

-- which signatures the stand-in's signer may answer
abbrev pub may_sign : List ℕ → List ℕ → List ℕ → Type 0
may_sign key message signature = IsStandInKey key × IsStandInSignature key message signature

-- what the stand-in checks objects by
abbrev pub by_stand_in : {C : Type 0} → Desk C → Checking
by_stand_in desk = record {
  digest = sha256;
  verdict = is_stand_in_signature;
  issuer = desk.issuer;
  list = desk.list;
  moment = desk.moment;
}

-- ---- what is published

-- The octets are a ROA that says the content, was built as it was told, is good, and is not
-- revoked.
abbrev pub IsGoodRoa : List ℕ → ToSign Roa → Checking → List ℕ → Type 0
IsGoodRoa key told by octets =
    IsPublished roa_kind RoaForm by told.content
    (IsIssuedRoa may_sign IsStandInKey key sha256 told.content told.builder) octets

-- The octets are such an ASPA.
abbrev pub IsGoodAspa : List ℕ → ProviderLimit → ToSign Aspa → Checking → List ℕ → Type 0
IsGoodAspa key limit told by octets =
    IsPublished aspa_kind (AspaForm limit) by told.content
    (IsIssuedAspa may_sign IsStandInKey key sha256 limit told.content told.builder) octets

-- The octets are such a manifest.
abbrev pub IsGoodManifest : List ℕ → ToSign Manifest → Checking → List ℕ → Type 0
IsGoodManifest key told by octets =
    IsPublished manifest_kind (ManifestForm Registered Der) by told.content
    (IsIssuedManifest may_sign IsStandInKey key sha256 told.content told.builder) octets

-- Each object is such a one.
pub record ArePublished (key : List ℕ) (told : Objects) (by : Checking) (p : Published)
    : Type 0 where
  pub roa : IsGoodRoa key told.roa by p.roa
  pub aspa : IsGoodAspa key told.limit told.aspa by p.aspa
  pub manifest : IsGoodManifest key told.manifest by p.manifest

-- The certificate of the trust anchor is what was told, and is good; the list has the entries that
-- were told, and is signed by the same key; and each object is published under both, which is to
-- say that it says its content, is good, and is not revoked by the list.
pub record IsPublication (key : List ℕ) (told : Plan) (now : Moment) (p : Publication)
    : Type 0 where
  pub anchor : IsMadeAnchor (may_sign key) is_stand_in_signature told.anchor now p.anchor
  pub list : p.list.list ≡ made_list told.list (name_of key) p.list.list.signature
  pub signed : IsSignedBy is_stand_in_signature key p.list.list
  pub objects : ArePublished key told.objects (record {
    digest = sha256;
    verdict = is_stand_in_signature;
    issuer = p.anchor;
    list = p.list.list;
    moment = now;
  }) p.objects

-- ---- what fits

-- What was told of a trust anchor fits its profile, is signed by its own key, and is valid at the
-- moment.
pub record AnchorFits (key : List ℕ) (told : Unsigned) (now : Moment) : Type 0 where
  pub profile : AllHold (ta_checks (tbs_of told))
  pub own_key : told.key ≡ key
  pub in_time : IsInTime told.validity now

-- The issuer has the numbers of a ROA, and the AS numbers that its certificate is told to claim;
-- and the builder fits.
pub record RoaFits (key : List ℕ) (told : ToSign Roa) (by : Checking) : Type 0 where
  pub builder : IsTimely told.builder key by
  pub prefixes : RoaCovered told.content by.issuer.sets
  pub numbers : IsAllowed (λ (n : ℕ). n) Refuse told.builder.as_numbers by.issuer.sets.as_numbers

-- The issuer has the customer of an ASPA, and the builder fits.
pub record AspaFits (key : List ℕ) (told : ToSign Aspa) (by : Checking) : Type 0 where
  pub builder : IsTimely told.builder key by
  pub customer : Covers (λ (n : ℕ). n) by.issuer.sets.as_numbers (only told.content.customer ∷ [])

-- The builder of a manifest fits.
abbrev pub ManifestFits : List ℕ → ToSign Manifest → Checking → Type 0
ManifestFits key told by = IsTimely told.builder key by

-- Each object fits.
pub record ObjectsFit (key : List ℕ) (told : Objects) (by : Checking) : Type 0 where
  pub roa : RoaFits key told.roa by
  pub aspa : AspaFits key told.aspa by
  pub manifest : ManifestFits key told.manifest by

-- What a builder was told is in time at the moment, and the list that was told does not name its
-- serial number.
pub record IsToldInTime (b : Settings) (list : UnsignedList) (now : Moment) : Type 0 where
  pub in_time : IsInTime b.validity now
  pub signing_time : stamp b.signing_time ≤ stamp b.validity.not_after
  pub unrevoked : ¬ Any (λ r. serial_of r ≡ b.serial_number) list.revoked

-- All that was told fits: the trust anchor its profile, its key and the moment; the builder of each
-- object the list and the moment; and the trust anchor claims each prefix of the ROA, the AS
-- numbers that the certificate of the ROA is told to claim, and the customer of the ASPA.
pub record IsFitPlan (key : List ℕ) (told : Plan) (now : Moment) : Type 0 where
  pub anchor : AnchorFits key told.anchor now
  pub roa : IsToldInTime told.objects.roa.builder told.list now
  pub aspa : IsToldInTime told.objects.aspa.builder told.list now
  pub manifest : IsToldInTime told.objects.manifest.builder told.list now
  pub prefixes : (sets : Sets) → AreClaimed told.anchor.extensions.claims sets
      → RoaCovered told.objects.roa.content sets
  pub numbers : (sets : Sets) → AreClaimed told.anchor.extensions.claims sets
      → IsAllowed (λ (n : ℕ). n) Refuse told.objects.roa.builder.as_numbers sets.as_numbers
  pub customer : (sets : Sets) → AreClaimed told.anchor.extensions.claims sets
      → Covers (λ (n : ℕ). n) sets.as_numbers (only told.objects.aspa.content.customer ∷ [])

-- ---- refusals

-- A check refuses since memory ran out, or since this does not hold.
abbrev pub OrUnfit : Type 0 → CheckError → Type 0
OrUnfit Fits error = IsWantOfMemory error ⊎ (Fits → ⊥)

-- why the certificate of the trust anchor or its list is not signed
abbrev pub IsUnsignedAuthority : {E : Type 0} → List ℕ → Unsigned → UnsignedList → SigningError E
    → Type 0
IsUnsignedAuthority key told list e =
    IsNotSigned (may_sign key) told e ⊎ IsNotIssued (may_sign key) list (name_of key) e

-- why the ROA is not signed
abbrev pub IsUnsignedRoa : {E : Type 0} → List ℕ → ToSign Roa → SigningError E → Type 0
IsUnsignedRoa key told e =
    IsNotBuiltRoa may_sign IsStandInKey told.content told.builder key
    (sha256 (roa_octets told.content)) e

-- why the ASPA is not signed
abbrev pub IsUnsignedAspa : {E : Type 0} → List ℕ → ProviderLimit → ToSign Aspa → SigningError E
    → Type 0
IsUnsignedAspa key limit told e =
    IsNotBuiltAspa may_sign IsStandInKey limit told.content told.builder key
    (sha256 (aspa_octets told.content)) e

-- why the manifest is not signed
abbrev pub IsUnsignedManifest : {E : Type 0} → List ℕ → ToSign Manifest → SigningError E → Type 0
IsUnsignedManifest key told e =
    IsNotSignedManifest may_sign IsStandInKey told.builder key sha256 told.content e

-- why one of the objects is not signed
abbrev pub AreUnsigned : {E : Type 0} → List ℕ → Objects → SigningError E → Type 0
AreUnsigned key told e =
    IsUnsignedRoa key told.roa e
    ⊎ (IsUnsignedAspa key told.limit told.aspa e ⊎ IsUnsignedManifest key told.manifest e)

-- Why nothing is published: something is not signed, for a reason that its builder states; or
-- memory ran out; or what was told does not fit.
abbrev pub IsNoPublication : {E : Type 0} → List ℕ → Plan → Moment → IssueError E → Type 0
IsNoPublication key told now =
    IsNotPublished
    (λ e. IsUnsignedAuthority key told.anchor told.list e ⊎ AreUnsigned key told.objects e)
    (OrUnfit (IsFitPlan key told now))
