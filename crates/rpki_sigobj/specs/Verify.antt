-- What is verified of a signed object, and in which order. The sections are those of RFC 6488,
-- where no other RFC is named.
use Rattle.std.specs.Prelude.{◌≡◌, ◌≤◌, ℕ, List, [], ◌∷◌, ◌++◌, true}
use Rattle.rpki_basics.specs.Moment.{stamp}
use Rattle.rpki_faults.specs.Checks.{Check, ◌unless◌, ◌as_faults_of◌}
use Rattle.rpki_faults.specs.declared.inspection.InspectionError.{InspectionError}
use Rattle.rpki_faults.specs.declared.inspection.InspectionError.TheVariants.{SidMismatch}
use Rattle.rpki_faults.specs.declared.validation.ValidationError.{ValidationError}
use Rattle.rpki_faults.specs.declared.validation.ValidationError.TheVariants.{Inspection}
use Rattle.rpki_faults.specs.declared.validation.ValidationError.TheVariants.{Verification}
use Rattle.rpki_faults.specs.declared.verification.VerificationError.{VerificationError}
use Rattle.rpki_faults.specs.declared.verification.VerificationError.TheVariants as faults
use Rattle.rpki_attributes.specs.Attrs.Made.{message_of}
use Rattle.rpki_certs.specs.Verify.{Verdict}
use Rattle.rpki_sigobj.specs.Object.{SignedData}

-- the digest of octets
abbrev pub Digester : Type 0
Digester = List ℕ → List ℕ

-- The signer names the key of the certificate, by the identifier that the certificate states
-- (sections 2.1.6.2 and 3, point 1.c).
abbrev pub NamesItsKey : SignedData → Type 0
NamesItsKey s = s.signer.sid ≡ s.cert.tbs.extensions.key.subject_key

-- The digest that was signed is that of the content (section 2.1.6.4.2; RFC 5652, section 5.6).
abbrev pub HasItsDigest : Digester → SignedData → Type 0
HasItsDigest digest s = s.signer.attributes.message_digest ≡ digest s.content

-- The signing time is not after the end of the validity of the certificate, which is this project's
-- own rule; it may be before the beginning. RFC 6488, section 2.1.6.4.3, does not say which moment
-- the signing time has to be.
abbrev pub IsSignedInTime : SignedData → Type 0
IsSignedInTime s =
    stamp s.signer.attributes.signing_time ≤ stamp s.cert.tbs.validity.not_after

-- The key of the certificate signed the message of the signed attributes (section 3, point 2; RFC
-- 5652, section 5.6).
abbrev pub IsSignedByItsKey : Verdict → SignedData → Type 0
IsSignedByItsKey verdict s =
    verdict s.cert.tbs.key (message_of s.signer.attributes) s.signer.signature ≡ true

-- The object is well signed: it names the key of its certificate as its signer, the digest that was
-- signed is that of its content, its signing time is not after the end of the certificate's
-- validity, and that key signed it (RFC 6488, section 3).
pub record IsWellSigned (digest : Digester) (verdict : Verdict) (s : SignedData) : Type 0 where
  pub names_its_key : NamesItsKey s
  pub has_its_digest : HasItsDigest digest s
  pub in_time : IsSignedInTime s
  pub signed : IsSignedByItsKey verdict s

-- The signer has to be the key of the certificate.
abbrev pub signer_checks : SignedData → List (Check InspectionError)
signer_checks s = (SidMismatch unless NamesItsKey s) ∷ []

-- The digest has to be that of the content.
abbrev pub digest_checks : Digester → SignedData → List (Check VerificationError)
digest_checks digest s = (faults.DigestMismatch unless HasItsDigest digest s) ∷ []

-- The signing time may not be after the end of the certificate's validity.
abbrev pub time_checks : SignedData → List (Check VerificationError)
time_checks s = (faults.SigningTime unless IsSignedInTime s) ∷ []

-- The key of the certificate has to have signed.
abbrev pub signature_checks : Verdict → SignedData → List (Check VerificationError)
signature_checks verdict s = (faults.BadSignature unless IsSignedByItsKey verdict s) ∷ []

-- What was signed: the digest, then the time.
abbrev pub content_checks : Digester → SignedData → List (Check VerificationError)
content_checks digest s = digest_checks digest s ++ time_checks s

-- What is checked of a signed object, before its certificate: the signer, what was signed, and the
-- signature.
abbrev pub object_checks : Digester → Verdict → SignedData → List (Check ValidationError)
object_checks digest verdict s =
    (Inspection as_faults_of signer_checks s)
    ++ ((Verification as_faults_of content_checks digest s)
    ++ (Verification as_faults_of signature_checks verdict s))
