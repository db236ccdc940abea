-- Objects of which octets are good ones, where a revocation list is asked.
use Rattle.std.specs.Prelude.{◌≡◌, ◌⊎◌, ℕ, List, [], ◌∷◌, Result, Ok, Err, Contains}
use Rattle.rpki_der.specs.declared.mode.Mode.TheVariants.{Der}
use Rattle.rpki_der.specs.Grammar.{HasNoFront}
use Rattle.rpki_der.specs.Read.Reads.{Refuses}
use Rattle.rpki_basics.specs.Moment.{Moment}
use Rattle.rpki_faults.specs.Checks.{◌unless◌, AnswersFirstFault}
use Rattle.rpki_faults.specs.declared.validation.ValidationError.{ValidationError}
use Rattle.rpki_faults.specs.declared.validation.ValidationError.TheVariants.{Memory, Verification}
use Rattle.rpki_faults.specs.declared.verification.VerificationError.TheVariants.{Caller}
use Rattle.rpki_crls.specs.Crl.{RevocationList}
use Rattle.rpki_certs.specs.Cert.{Certificate, KeptCertificate}
use Rattle.rpki_certs.specs.Validate.{Validated}
use Rattle.rpki_certs.specs.Verify.{Verdict}
use Rattle.rpki_sigobj.specs.Verify.{Digester}
use Rattle.rpki_sigobj.specs.Signed.Good.{IsGood}
use Rattle.rpki_sigobj.specs.Signed.Kind.{ObjectKind}
use Rattle.rpki_sigobj.specs.Signed.{Whole, ObjectForm}
use Rattle.rpki_signed.specs.declared.check.CheckError.{CheckError}
use Rattle.rpki_signed.specs.declared.check.CheckError.TheVariants.{Decode, Validation}
use Rattle.rpki_signed.specs.Check.{BeginsWith}

-- The list has no entry with the serial number of the certificate (RFC 5280, section 5.1.2.6).
abbrev pub IsUnrevoked : RevocationList → Certificate → Type 0
IsUnrevoked list c = ¬ Contains list.tbs.revoked c.tbs.serial_number

-- What the list says of a certificate: a yes exactly where it does not revoke it, and else that
-- the caller refuses it.
abbrev pub SaysOf : RevocationList → KeptCertificate → Result (Unit {0}) ValidationError → Type 0
SaysOf list k said =
    AnswersFirstFault ((Verification Caller unless IsUnrevoked list k.certificate) ∷ []) said

-- What is said of certificates is what the list says.
abbrev pub SaysAs : (KeptCertificate → Result (Unit {0}) ValidationError → Type 0)
    → RevocationList → Type 0
SaysAs Says list = (k : KeptCertificate) (said : Result (Unit {0}) ValidationError) → Says k said
    → SaysOf list k said

-- An object in DER is good under the issuer at the moment, and the list does not revoke its
-- certificate.
abbrev pub IsGoodByList : {X : Type 0} → ObjectKind X → Digester → Verdict → Validated → Moment
    → RevocationList → Whole X → Type 0
IsGoodByList kind digest verdict issuer now list o = (v : Validated)
    × IsGood kind Der digest verdict issuer now o v × IsUnrevoked list o.object.signed.cert

-- What is answered by a look at the content of the object that octets begin with, in DER: P, where
-- the object is good and not revoked. Unless memory runs out, `Decode` means that they begin with
-- no object of this kind, and `Validation` that they begin with one that is not good or is revoked.
abbrev pub LooksInto : {X T : Type 0} → ObjectKind X → (List ℕ → X → Type 0) → Digester → Verdict
    → Validated → Moment → RevocationList → (T → X → Type 0) → List ℕ → Result T CheckError
    → Type 0
LooksInto {X} kind form digest verdict issuer now list P octets (Ok t) =
    BeginsWith (ObjectForm kind.type form Der) octets (λ (o : Whole X).
    IsGoodByList kind digest verdict issuer now list o × P t o.content)
LooksInto kind form digest verdict issuer now list P octets (Err (Decode e)) =
    Refuses e (HasNoFront (ObjectForm kind.type form Der) octets)
LooksInto {X} kind form digest verdict issuer now list P octets (Err (Validation fault)) =
    BeginsWith (ObjectForm kind.type form Der) octets (λ (o : Whole X).
    (fault ≡ Memory) ⊎ (¬ IsGoodByList kind digest verdict issuer now list o))
