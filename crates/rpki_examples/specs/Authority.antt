-- What a certification authority makes, and what it checks before it publishes it.
use Rattle.std.specs.Prelude.{◌≡◌, ◌≤◌, ◌⊎◌, ℕ, List, Contains, Result, Ok, Err, true}
use Rattle.rpki_der.specs.declared.error.DecodeError.TheVariants as decode
use Rattle.rpki_der.specs.declared.mode.Mode.TheVariants.{Der}
use Rattle.rpki_basics.specs.Moment.{Moment, stamp}
use Rattle.rpki_basics.specs.Signing.{CountsError}
use Rattle.rpki_basics.specs.declared.limits.ProviderLimit.{ProviderLimit}
use Rattle.rpki_basics.specs.declared.signing.SigningError.{SigningError}
use Rattle.rpki_faults.specs.Checks.{AllHold, IsFirstFault}
use Rattle.rpki_faults.specs.declared.validation.ValidationError.{ValidationError}
use Rattle.rpki_faults.specs.declared.validation.ValidationError.TheVariants.{Memory}
use Rattle.rpki_crls.specs.Crl.{RevocationList}
use Rattle.rpki_certs.specs.Cert.{KeptCertificate}
use Rattle.rpki_certs.specs.Inspect.{ta_checks}
use Rattle.rpki_certs.specs.Validate.{IsAnchorOf, IsGoodAnchor, IsValidatedUnder, Validated}
use Rattle.rpki_certs.specs.Validate.{ta_validation}
use Rattle.rpki_certs.specs.Verify.{Verdict, IsInTime}
use Rattle.rpki_issued.specs.Tbs.{Unsigned, tbs_of}
use Rattle.rpki_issued.specs.Written.{made_certificate, tbs_octets}
use Rattle.rpki_sigobj.specs.Object.{SignedData}
use Rattle.rpki_sigobj.specs.Verify.{Digester}
use Rattle.rpki_sigobj.specs.Signed.Kind.{ObjectKind}
use Rattle.rpki_sigobj.specs.Signed.Process.{AnswersAsked, before_revocation}
use Rattle.rpki_sigobj.specs.Signed.{Whole, ObjectForm, cert_in}
use Rattle.rpki_signing.specs.Built.{Settings, AreSignatures, IsBuilt}
use Rattle.rpki_files.specs.Manifest.{Manifest, manifest_octets}
use Rattle.rpki_files.specs.Manifest.Checks.{ct_manifest}
use Rattle.rpki_files.specs.Manifest.Signed.{inheriting}
use Rattle.rpki_routes.specs.Aspa.{Aspa}
use Rattle.rpki_routes.specs.Aspa.Signed.{IsBuiltAspa}
use Rattle.rpki_routes.specs.Aspa.Written.{aspa_octets}
use Rattle.rpki_routes.specs.Roa.{Roa}
use Rattle.rpki_routes.specs.Roa.Signed.{IsBuiltRoa}
use Rattle.rpki_routes.specs.Roa.Written.{roa_octets}
use Rattle.rpki_signed.specs.declared.check.CheckError.{CheckError}
use Rattle.rpki_signed.specs.declared.check.CheckError.TheVariants.{Decode, Validation}
use Rattle.rpki_examples.specs.declared.authority.IssueError.{IssueError}
use Rattle.rpki_examples.specs.declared.authority.IssueError.TheVariants.{Signing, Check}
use Rattle.rpki_examples.specs.Received.{IsGoodByList, SaysOf}

-- Who checks objects: cryptography, a validated issuer with its revocation list, and a moment.
pub record Desk (C : Type 0) : Type 0 where
  pub crypto : C
  pub issuer : Validated
  pub list : RevocationList
  pub moment : Moment

-- A check of an object under an issuer with a revocation list, by the digests and the verdicts of
-- the cryptography in use.
pub record Checking : Type 0 where
  pub digest : Digester
  pub verdict : Verdict
  pub issuer : Validated
  pub list : RevocationList
  pub moment : Moment

-- what objects are checked by, where cryptography has these digests and these verdicts
abbrev pub checking : {C : Type 0} → (C → Digester) → (C → Verdict) → Desk C → Checking
checking digest verdict desk = record {
  digest = digest desk.crypto;
  verdict = verdict desk.crypto;
  issuer = desk.issuer;
  list = desk.list;
  moment = desk.moment;
}

-- What was signed is built like this, by both signatures such as the signer may answer: that of the
-- attributes is by a key that is made to sign once, that of its certificate by the issuer's key.
pub record IsIssued (may : List ℕ → List ℕ → List ℕ → Type 0) (once : List ℕ → Type 0)
    (issuer : List ℕ) (Built : SignedData → Type 0) (s : SignedData) : Type 0 where
  pub built : Built s
  pub signatures : AreSignatures may issuer s
  pub one_off : once s.cert.tbs.key

-- what was signed is the object of a ROA, issued by a builder that was told this
abbrev pub IsIssuedRoa : (List ℕ → List ℕ → List ℕ → Type 0) → (List ℕ → Type 0) → List ℕ
    → Digester → Roa → Settings → SignedData → Type 0
IsIssuedRoa may once issuer digest r told =
    IsIssued may once issuer (IsBuiltRoa r told issuer (digest (roa_octets r)))

-- what was signed is that of an ASPA
abbrev pub IsIssuedAspa : (List ℕ → List ℕ → List ℕ → Type 0) → (List ℕ → Type 0) → List ℕ
    → Digester → ProviderLimit → Aspa → Settings → SignedData → Type 0
IsIssuedAspa may once issuer digest limit a told =
    IsIssued may once issuer (IsBuiltAspa limit a told issuer (digest (aspa_octets a)))

-- what was signed is that of a manifest
abbrev pub IsIssuedManifest : (List ℕ → List ℕ → List ℕ → Type 0) → (List ℕ → Type 0) → List ℕ
    → Digester → Manifest → Settings → SignedData → Type 0
IsIssuedManifest may once issuer digest m told =
    IsIssued may once issuer (IsBuilt (inheriting told) issuer ct_manifest (manifest_octets m)
    (digest (manifest_octets m)))

-- The octets are an object in DER that says this, is good, and is not revoked; and of what was
-- signed, its certificate among it, this holds.
pub record IsPublished {X : Type 0} (kind : ObjectKind X) (form : List ℕ → X → Type 0)
    (by : Checking) (said : X) (Issued : SignedData → Type 0) (octets : List ℕ) : Type 0 where
  pub object : Whole X
  pub written : ObjectForm kind.type form Der octets object
  pub content : object.content ≡ said
  pub good : IsGoodByList kind by.digest by.verdict by.issuer by.moment by.list object
  pub issued : Issued object.object.signed

-- The certificate of a trust anchor as it is made: of what its builder was told, with a signature
-- that may be answered, and good at the moment.
pub record IsMadeAnchor (may : List ℕ → List ℕ → Type 0) (verdict : Verdict) (told : Unsigned)
    (now : Moment) (anchor : Validated) : Type 0 where
  pub cert : KeptCertificate
  pub validated : IsAnchorOf cert anchor
  pub made : cert.certificate ≡ made_certificate (tbs_of told) cert.certificate.signature
  pub signed : may (tbs_octets (tbs_of told)) cert.certificate.signature
  pub good : IsGoodAnchor verdict cert.certificate now

-- ---- what a check has to agree with

-- Verdicts say yes to what a signer may answer; and what a builder was told fits the profile of a
-- trust anchor, is signed by its own key, and is valid at the moment: no check refuses it.
pub record IsFitAnchor (may : List ℕ → List ℕ → List ℕ → Type 0) (verdict : Verdict)
    (told : Unsigned) (key : List ℕ) (now : Moment) : Type 0 where
  pub signatures : (k m s : List ℕ) → may k m s → verdict k m s ≡ true
  pub profile : AllHold (ta_checks (tbs_of told))
  pub own_key : told.key ≡ key
  pub in_time : IsInTime told.validity now

-- Verdicts say yes to what a signer may answer, and its digests are those of the check.
pub record Takes (may : List ℕ → List ℕ → List ℕ → Type 0) (made : Digester) (by : Checking)
    : Type 0 where
  pub signatures : (key message signature : List ℕ) → may key message signature
      → by.verdict key message signature ≡ true
  pub digests : (octets : List ℕ) → made octets ≡ by.digest octets

-- What a builder was told fits the issuer with this key, its list and the moment: but for what is
-- claimed, no check refuses it.
pub record IsTimely (b : Settings) (key : List ℕ) (by : Checking) : Type 0 where
  pub issuer_key : by.issuer.cert.certificate.tbs.key ≡ key
  pub in_time : IsInTime b.validity by.moment
  pub signing_time : stamp b.signing_time ≤ stamp b.validity.not_after
  pub unrevoked : ¬ Contains by.list.tbs.revoked b.serial_number

-- ---- refusals

-- Each fault of the signer's own raises the count of its failed calls, and nothing else does.
abbrev pub CountsIssue : {T E : Type 0} → ℕ → ℕ → Result T (IssueError E) → Type 0
CountsIssue old new (Ok t) = new ≡ old
CountsIssue {T} old new (Err (Signing error)) = CountsError {T = T} old new (Err error)
CountsIssue old new (Err (Check error)) = new ≡ old

-- Memory ran out.
abbrev pub IsWantOfMemory : CheckError → Type 0
IsWantOfMemory (Decode error) = error ≡ decode.Memory
IsWantOfMemory (Validation fault) = fault ≡ Memory

-- Of an object in DER, a check by the list answers this: it is the fault of the first check that
-- does not hold, or memory ran out.
abbrev pub IsFaultOf : {X : Type 0} → ObjectKind X → Checking → Whole X → ValidationError → Type 0
IsFaultOf {X} kind by o fault =
    AnswersAsked {X = X} (before_revocation kind by.digest by.verdict o by.issuer by.moment)
    (IsValidatedUnder (cert_in Der o) by.issuer) (SaysOf by.list (cert_in Der o))
    (kind.held o.content) o.content (Err fault)

-- Why an object that says this does not pass its check: memory ran out, or it is what a check by
-- the list answers of it; and of what was signed this holds.
abbrev pub IsFaulty : {X : Type 0} → ObjectKind X → Checking → X → (SignedData → Type 0)
    → CheckError → Type 0
IsFaulty kind by said Issued (Decode error) = error ≡ decode.Memory
IsFaulty {X} kind by said Issued (Validation fault) =
    (o : Whole X) × (o.content ≡ said) × Issued o.object.signed × IsFaultOf kind by o fault

-- Why nothing is published: it is not signed, for this reason; or it is, and does not pass its
-- check, for that one.
abbrev pub IsNotPublished : {E : Type 0} → (SigningError E → Type 0) → (CheckError → Type 0)
    → IssueError E → Type 0
IsNotPublished Why Faulty (Signing error) = Why error
IsNotPublished Why Faulty (Check error) = Faulty error

-- Why the certificate of a trust anchor is not good: it is the fault of the first check that does
-- not hold of the certificate that is made of this, with a signature that may be answered; or
-- memory ran out.
abbrev pub IsNoAnchor : (List ℕ → List ℕ → Type 0) → Verdict → Unsigned → Moment → CheckError
    → Type 0
IsNoAnchor may verdict told now (Decode error) = ⊥
IsNoAnchor may verdict told now (Validation fault) =
    (fault ≡ Memory)
    ⊎ ((s : List ℕ) × may (tbs_octets (tbs_of told)) s
    × IsFirstFault (ta_validation verdict (made_certificate (tbs_of told) s) now) fault)
