-- Checks of one kind by two forms of its contents, of which one is wider.
use Rattle.std.specs.Prelude.{◌≡◌, ◌⊎◌, ℕ, List, Result, Ok, Err}
use Rattle.rpki_der.specs.declared.error.DecodeError.TheVariants as unread
use Rattle.rpki_der.specs.declared.mode.Mode.{Mode}
use Rattle.rpki_basics.specs.Moment.{Moment}
use Rattle.rpki_faults.specs.declared.validation.ValidationError.{ValidationError}
use Rattle.rpki_faults.specs.declared.validation.ValidationError.TheVariants.{Memory}
use Rattle.rpki_certs.specs.Cert.{KeptCertificate}
use Rattle.rpki_certs.specs.Validate.{Validated, AreHeld}
use Rattle.rpki_certs.specs.Verify.{Verdict}
use Rattle.rpki_sigobj.specs.Verify.{Digester}
use Rattle.rpki_sigobj.specs.Signed.Kind.{ObjectKind}
use Rattle.rpki_signed.specs.declared.check.CheckError.{CheckError}
use Rattle.rpki_signed.specs.declared.check.CheckError.TheVariants.{Decode, Validation}
use Rattle.rpki_signed.specs.Check.{Checks, MayAsk}
use Rattle.rpki_signed.specs.Exact.{IsExact}

-- The answer repeats the yes a: the same certificate, with the same numbers, and the same content.
-- Or memory ran out, or the caller, asked again of the certificate, answered this fault.
abbrev pub RepeatsYes : {X : Type 0}
    → (KeptCertificate → Result (Unit {0}) ValidationError → Type 0)
    → Validated × X → Result (Validated × X) CheckError → Type 0
RepeatsYes Says a (Ok b) = (b.0.cert ≡ a.0.cert) × AreHeld a.0.sets b.0.sets
    × AreHeld b.0.sets a.0.sets × (b.1 ≡ a.1)
RepeatsYes Says a (Err (Decode e)) = e ≡ unread.Memory
RepeatsYes Says a (Err (Validation fault)) = (fault ≡ Memory) ⊎ Says a.0.cert (Err fault)

-- A yes of a check by the narrow form is a yes by the wide one, under the same issuer, at the same
-- moment, with the same certificate and the same content, by each definition of what a check
-- answers (first, exact). Whatever a check by the wide form answers there, repeats it (again); and
-- there, who may ask the caller by the narrow form, may ask by the wide one (asks).
pub record KeepsYes {X : Type 0} (kind : ObjectKind X) (narrow wide : List ℕ → X → Type 0)
    (Says : KeptCertificate → Result (Unit {0}) ValidationError → Type 0)
    (Takes : KeptCertificate → Type 0) : Type 0 where
  pub first : (mode : Mode) (digest : Digester) (verdict : Verdict) (issuer : Validated)
      (now : Moment) (octets : List ℕ) (a : Validated × X)
      → Checks kind narrow mode digest verdict issuer now Says octets (Ok a)
      → Checks kind wide mode digest verdict issuer now Says octets (Ok a)
  pub exact : (mode : Mode) (digest : Digester) (verdict : Verdict) (issuer : Validated)
      (now : Moment) (octets : List ℕ) (a : Validated × X)
      → IsExact kind narrow mode digest verdict issuer now Says octets (Ok a)
      → IsExact kind wide mode digest verdict issuer now Says octets (Ok a)
  pub again : (mode : Mode) (digest : Digester) (verdict : Verdict) (issuer : Validated)
      (now : Moment) (octets : List ℕ) (a : Validated × X)
      (result : Result (Validated × X) CheckError)
      → IsExact kind narrow mode digest verdict issuer now Says octets (Ok a)
      → IsExact kind wide mode digest verdict issuer now Says octets result
      → RepeatsYes Says a result
  pub asks : (mode : Mode) (digest : Digester) (verdict : Verdict) (issuer : Validated)
      (now : Moment) (octets : List ℕ) (a : Validated × X)
      → IsExact kind narrow mode digest verdict issuer now Says octets (Ok a)
      → MayAsk kind narrow mode digest verdict issuer now Takes octets
      → MayAsk kind wide mode digest verdict issuer now Takes octets
