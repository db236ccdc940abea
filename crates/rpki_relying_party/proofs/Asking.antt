-- What is answered of octets where another says the same of certificates.
use Rattle.std.proofs.Common.{inl, inr, ℕ, List, Result, Ok, Err}
use Rattle.rpki_der.specs.declared.mode.Mode.{Mode}
use Rattle.rpki_basics.specs.Moment.{Moment}
use Rattle.rpki_certs.specs.Cert.{KeptCertificate}
use Rattle.rpki_certs.specs.Validate.{Sets, Validated}
use Rattle.rpki_certs.specs.Verify.{Verdict}
use Rattle.rpki_faults.specs.Checks.{Check}
use Rattle.rpki_faults.specs.declared.validation.ValidationError.{ValidationError}
use Rattle.rpki_sigobj.specs.Verify.{Digester}
use Rattle.rpki_signed.specs.declared.check.CheckError.{CheckError}
use Rattle.rpki_signed.specs.declared.check.CheckError.TheVariants.{Decode, Validation}
use Rattle.rpki_signed.specs.Check.{Checks}
use Rattle.rpki_signed.specs.Exact.{IsExact}
use Rattle.rpki_sigobj.specs.Signed.{cert_in}
use Rattle.rpki_sigobj.specs.Signed.Process.{AnswersAsked}
use Rattle.rpki_sigobj.specs.Signed.Kind.{ObjectKind}

module _ {X : Type 0} (kind : ObjectKind X) (form : List ℕ → X → Type 0) (mode : Mode)
    (digest : Digester) (verdict : Verdict) (issuer : Validated) (now : Moment)
    (octets : List ℕ)
    (A B : KeptCertificate → Result (Unit {0}) ValidationError → Type 0)
    (means : (k : KeptCertificate) (said : Result (Unit {0}) ValidationError) → A k said
    → B k said) where
  pub said-as : (result : Result (Validated × X) CheckError)
      → IsExact kind form mode digest verdict issuer now A octets result
      → IsExact kind form mode digest verdict issuer now B octets result
  said-as (Ok a) h = record {
    object = h.object;
    rest = h.rest;
    front = h.front;
    holds = (means _ _ h.holds.0, h.holds.1, h.holds.2);
  }
  said-as (Err (Decode e)) h = h
  said-as (Err (Validation fault)) h = record {
    object = h.object;
    rest = h.rest;
    front = h.front;
    holds = elim h.holds [
      | inl memory ↦ inl memory
      | inr bad ↦ inr (λ v g. means _ _ (bad v g))
    ];
  }

  asked-as : {before : List (Check ValidationError)} {IsValid : Validated → Type 0}
      {held : Sets → List (Check ValidationError)} (k : KeptCertificate) (content : X)
      (r : Result (Validated × X) ValidationError)
      → AnswersAsked before IsValid (A k) held content r
      → AnswersAsked before IsValid (B k) held content r
  asked-as k content r (inl memory) = inl memory
  asked-as k content r (inr p) = inr (record {
    valid = p.valid;
    said = p.said;
    asked = λ all. ((p.asked all).0, means k p.said (p.asked all).1);
    first = p.first;
  })

  pub checked-as : (result : Result (Validated × X) CheckError)
      → Checks kind form mode digest verdict issuer now A octets result
      → Checks kind form mode digest verdict issuer now B octets result
  checked-as (Ok a) h = record {
    object = h.object;
    rest = h.rest;
    front = h.front;
    holds = asked-as (cert_in mode h.object) h.object.content (Ok a) h.holds;
  }
  checked-as (Err (Decode e)) h = h
  checked-as (Err (Validation fault)) h = record {
    object = h.object;
    rest = h.rest;
    front = h.front;
    holds = asked-as (cert_in mode h.object) h.object.content (Err fault) h.holds;
  }
