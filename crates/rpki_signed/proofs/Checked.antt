-- What is answered of an object at the front of octets.
use Rattle.std.proofs.Common.{◌≡◌, ◌⊎◌, inl, inr, ℕ, List, Result, Ok, Err, subst}
use Rattle.rpki_der.specs.declared.mode.Mode.{Mode}
use Rattle.rpki_der.specs.Form.Decodes.{IsOnlyFront}
use Rattle.rpki_basics.specs.Moment.{Moment}
use Rattle.rpki_faults.specs.declared.validation.ValidationError.{ValidationError}
use Rattle.rpki_faults.specs.declared.validation.ValidationError.TheVariants.{Memory}
use Rattle.rpki_certs.specs.Cert.{KeptCertificate}
use Rattle.rpki_certs.specs.Validate.{Validated, IsValidatedUnder}
use Rattle.rpki_certs.specs.Verify.{Verdict}
use Rattle.rpki_sigobj.specs.Object.{cert_of}
use Rattle.rpki_sigobj.specs.Validate.{IsCertUnder}
use Rattle.rpki_sigobj.specs.Verify.{Digester}
use Rattle.rpki_sigobj.proofs.Wholes.Goodness.{good, not-good}
use Rattle.rpki_sigobj.specs.Signed.Good.{IsGood, IsNotGood, Means}
use Rattle.rpki_sigobj.specs.Signed.Kind.{ObjectKind}
use Rattle.rpki_sigobj.specs.Signed.Process.{before_revocation, AnswersAsked}
use Rattle.rpki_sigobj.specs.Signed.{Whole, KeptWhole, ObjectForm, whole_of, cert_in}
use Rattle.rpki_signed.specs.declared.check.CheckError.{CheckError}
use Rattle.rpki_signed.specs.declared.check.CheckError.TheVariants.{Decode, Validation}
use Rattle.rpki_signed.specs.Check.{BeginsWith, Checks, ChecksContent}
use Rattle.rpki_signed.specs.Exact.{IsExact}

module _ {X : Type 0} (kind : ObjectKind X) (form : List ℕ → X → Type 0) (digest : Digester)
    (verdict : Verdict) (issuer : Validated) (now : Moment)
    (Says : KeptCertificate → Result (Unit {0}) ValidationError → Type 0) where
  -- what is answered of the object, with its certificate in this mode
  abbrev AnswersOf : Mode → Result (Validated × X) ValidationError → Whole X → Type 0
  AnswersOf mode r o = AnswersAsked (before_revocation kind digest verdict o issuer now)
      (IsValidatedUnder (cert_in mode o) issuer) (Says (cert_in mode o)) (kind.held o.content)
      o.content r

  pub answered : (mode : Mode) (octets : List ℕ) (k : KeptWhole X) (rest : List ℕ)
      → k.object.mode ≡ mode
      → IsOnlyFront (ObjectForm kind.type form mode) octets (whole_of k) rest
      → (r : Result (Validated × X) ValidationError)
      → AnswersAsked (before_revocation kind digest verdict (whole_of k) issuer now)
      (IsCertUnder k.object issuer) (Says (cert_of k.object)) (kind.held k.content) k.content r
      → BeginsWith (ObjectForm kind.type form mode) octets (AnswersOf mode r)
  answered mode octets k rest e front r h = record {
    object = whole_of k;
    rest = rest;
    front = front;
    holds = subst (λ (m : Mode). AnswersOf m r (whole_of k)) e h;
  }

  -- what a yes means
  pub yes-means : (mode : Mode) (octets : List ℕ) (a : Validated × X)
      → (b : BeginsWith (ObjectForm kind.type form mode) octets (AnswersOf mode (Ok a)))
      → Means kind b.object.content
      → BeginsWith (ObjectForm kind.type form mode) octets (λ (o : Whole X).
      Says (cert_in mode o) (Ok tt) × IsGood kind mode digest verdict issuer now o a.0
      × (a.1 ≡ o.content))
  yes-means mode octets a b m = record {
    object = b.object;
    rest = b.rest;
    front = b.front;
    holds = of b.holds;
  }
    where
      of : AnswersOf mode (Ok a) b.object → Says (cert_in mode b.object) (Ok tt)
          × IsGood kind mode digest verdict issuer now b.object a.0
          × (a.1 ≡ b.object.content)
      of (inl e) = absurd cc
      of (inr h) = good kind mode digest verdict issuer now b.object m
          (Says (cert_in mode b.object)) a h

  -- what a no means
  pub no-means : (mode : Mode) (octets : List ℕ) (fault : ValidationError)
      → (b : BeginsWith (ObjectForm kind.type form mode) octets (AnswersOf mode (Err fault)))
      → Means kind b.object.content
      → BeginsWith (ObjectForm kind.type form mode) octets (λ (o : Whole X). (fault ≡ Memory)
      ⊎ IsNotGood kind mode digest verdict issuer now (Says (cert_in mode o)) o fault)
  no-means mode octets fault b m = record {
    object = b.object;
    rest = b.rest;
    front = b.front;
    holds = of b.holds;
  }
    where
      of : AnswersOf mode (Err fault) b.object → (fault ≡ Memory)
          ⊎ IsNotGood kind mode digest verdict issuer now (Says (cert_in mode b.object)) b.object
          fault
      of (inl e) = inl cc
      of (inr h) = inr (not-good kind mode digest verdict issuer now b.object m
          (Says (cert_in mode b.object)) fault h)

  module _ (IsContent : X → Type 0) (mode : Mode) (octets : List ℕ) where
    pub answered-content : (k : KeptWhole X) (rest : List ℕ) → k.object.mode ≡ mode
        → IsOnlyFront (ObjectForm kind.type form mode) octets (whole_of k) rest
        → IsContent k.content → (r : Result (Validated × X) ValidationError)
        → AnswersAsked (before_revocation kind digest verdict (whole_of k) issuer now)
        (IsCertUnder k.object issuer) (Says (cert_of k.object)) (kind.held k.content) k.content r
        → BeginsWith (ObjectForm kind.type form mode) octets
        (λ (o : Whole X). IsContent o.content × AnswersOf mode r o)
    answered-content k rest e front said r h = record {
      object = whole_of k;
      rest = rest;
      front = front;
      holds = (said, subst (λ (m : Mode). AnswersOf m r (whole_of k)) e h);
    }

    pub first-of : (r : Result (Validated × X) CheckError)
        → ChecksContent IsContent kind form mode digest verdict issuer now Says octets r
        → Checks kind form mode digest verdict issuer now Says octets r
    first-of (Ok a) b = record {
      object = b.object;
      rest = b.rest;
      front = b.front;
      holds = b.holds.1;
    }
    first-of (Err (Decode e)) h = h
    first-of (Err (Validation fault)) b = record {
      object = b.object;
      rest = b.rest;
      front = b.front;
      holds = b.holds.1;
    }

    pub exact-of : ((x : X) → IsContent x → Means kind x)
        → (r : Result (Validated × X) CheckError)
        → ChecksContent IsContent kind form mode digest verdict issuer now Says octets r
        → IsExact kind form mode digest verdict issuer now Says octets r
    unfolding first-of
    exact-of means (Ok a) b =
        yes-means mode octets a (first-of (Ok a) b) (means b.object.content b.holds.0)
    exact-of means (Err (Decode e)) h = h
    exact-of means (Err (Validation fault)) b =
        no-means mode octets fault (first-of (Err (Validation fault)) b)
        (means b.object.content b.holds.0)
