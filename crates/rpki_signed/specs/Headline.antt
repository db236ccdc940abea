-- From octets to the yes: what every check of an object promises.
use Rattle.std.specs.Prelude.{◌≡◌, ℕ, List, Result, Ok, Err}
use Rattle.rpki_der.specs.declared.error.DecodeError.TheVariants as unread
use Rattle.rpki_der.specs.declared.mode.Mode.{Mode}
use Rattle.rpki_der.specs.declared.mode.Mode.TheVariants.{Der}
use Rattle.rpki_der.specs.Form.Decodes.{IsOnlyFront}
use Rattle.rpki_basics.specs.Moment.{Moment}
use Rattle.rpki_faults.specs.declared.validation.ValidationError.{ValidationError}
use Rattle.rpki_faults.specs.declared.validation.ValidationError.TheVariants.{Memory}
use Rattle.rpki_certs.specs.Cert.{KeptCertificate}
use Rattle.rpki_certs.specs.Validate.{Validated}
use Rattle.rpki_certs.specs.Verify.{Verdict}
use Rattle.rpki_sigobj.specs.Verify.{Digester}
use Rattle.rpki_sigobj.specs.Signed.Good.{IsGood}
use Rattle.rpki_sigobj.specs.Signed.Kind.{ObjectKind}
use Rattle.rpki_sigobj.specs.Signed.{Whole, ObjectForm, cert_in}
use Rattle.rpki_multi.specs.Attestation.{KeptWhole, RtaForm, Whole as Attested}
use Rattle.rpki_paths.specs.Anchor.{Supply}
use Rattle.rpki_rta.specs.Granted.{IsDistinct, IsGrantedRta}
use Rattle.rpki_signed.specs.declared.check.CheckError.{CheckError}
use Rattle.rpki_signed.specs.declared.check.CheckError.TheVariants.{Decode, Validation}
use Rattle.rpki_signed.specs.Attested.{IsExactRta}
use Rattle.rpki_signed.specs.Exact.{IsExact}

-- memory ran out
abbrev pub IsMemory : CheckError → Type 0
IsMemory (Decode e) = e ≡ unread.Memory
IsMemory (Validation fault) = fault ≡ Memory

-- The octets begin with a member of the grammar of the kind; every check of it holds, what the
-- caller says of its certificate among them; and the numbers that it claims lie in the sets of its
-- validated certificate (`IsGood`).
pub record BeginsWithGood {X : Type 0} (kind : ObjectKind X) (form : List ℕ → X → Type 0)
    (mode : Mode) (digest : Digester) (verdict : Verdict) (issuer : Validated) (now : Moment)
    (Says : KeptCertificate → Result (Unit {0}) ValidationError → Type 0) (octets : List ℕ)
    : Type 0 where
  pub object : Whole X
  pub rest : List ℕ
  pub front : IsOnlyFront (ObjectForm kind.type form mode) octets object rest
  pub certificate : Validated
  pub good : IsGood kind mode digest verdict issuer now object certificate
  pub said : Says (cert_in mode object) (Ok tt)

-- What a caller says of this certificate is one answer.
abbrev pub SaysOne : (KeptCertificate → Result (Unit {0}) ValidationError → Type 0)
    → KeptCertificate → Type 0
SaysOne Says c = (a b : Result (Unit {0}) ValidationError) → Says c a → Says c b → a ≡ b

-- A check of this kind says yes exactly where the octets begin with a good object: a yes implies
-- it, and any answer but a yes, unless memory ran out, that it is not so, if the caller has one
-- answer about the certificate of that object (`SaysOne`).
pub record IsHeadline {X : Type 0} (kind : ObjectKind X) (form : List ℕ → X → Type 0)
    (Says : KeptCertificate → Result (Unit {0}) ValidationError → Type 0) : Type 0 where
  pub yes : (mode : Mode) (digest : Digester) (verdict : Verdict) (issuer : Validated)
      (now : Moment) (octets : List ℕ) (a : Validated × X)
      → IsExact kind form mode digest verdict issuer now Says octets (Ok a)
      → BeginsWithGood kind form mode digest verdict issuer now Says octets
  pub no : (mode : Mode) (digest : Digester) (verdict : Verdict) (issuer : Validated)
      (now : Moment) (octets : List ℕ) (e : CheckError)
      → IsExact kind form mode digest verdict issuer now Says octets (Err e) → ¬ (IsMemory e)
      → (good : BeginsWithGood kind form mode digest verdict issuer now Says octets)
      → ¬ (SaysOne Says (cert_in mode good.object))

-- The octets begin with a multi-signed attestation, in DER, that is granted at this moment under
-- these supplies (`IsGrantedRta`): every stated check of it holds, and each attested set equals the
-- union, over its signers, of the intersections of all explicit sets along anchored, signed, valid,
-- unrevoked paths without a cycle.
pub record BeginsWithGranted (digest : Digester) (verdict : Verdict) (now : Moment)
    (supplies : List Supply) (octets : List ℕ) : Type 0 where
  pub object : Attested
  pub rest : List ℕ
  pub front : IsOnlyFront (RtaForm Der) octets object rest
  pub granted : IsGrantedRta digest verdict now object supplies

-- A check of attestations says yes only where the octets begin with a granted one, and exactly
-- there if the identifiers of the certificates that it carries are distinct.
pub record IsRtaHeadline : Type 0 where
  pub yes : (digest : Digester) (verdict : Verdict) (now : Moment) (supplies : List Supply)
      (octets : List ℕ) (k : KeptWhole) → IsExactRta digest verdict now supplies octets (Ok k)
      → BeginsWithGranted digest verdict now supplies octets
  pub no : (digest : Digester) (verdict : Verdict) (now : Moment) (supplies : List Supply)
      (octets : List ℕ) (e : CheckError) → IsExactRta digest verdict now supplies octets (Err e)
      → ¬ (IsMemory e) → (granted : BeginsWithGranted digest verdict now supplies octets)
      → ¬ (IsDistinct digest verdict granted.object)
