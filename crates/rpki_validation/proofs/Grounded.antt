-- Octets that are no locator, and what a check answers by what is said of a certificate.
use Rattle.std.proofs.Common.{◌≡◌, ◌⊎◌, inl, inr, ℕ, List, Result, Ok, Err}
use Rattle.sha2.specs.Sha256.{sha256}
use Rattle.rpki_der.specs.declared.mode.Mode.{Mode}
use Rattle.rpki_faults.specs.Checks as checks
use Rattle.rpki_faults.specs.declared.validation.ValidationError.{ValidationError}
use Rattle.rpki_faults.specs.declared.validation.ValidationError.TheVariants as validation
use Rattle.rpki_certs.specs.Cert.{KeptCertificate}
use Rattle.rpki_certs.specs.Validate.{Sets, Validated}
use Rattle.rpki_rsa.specs.Signature.{is_rsa_signature}
use Rattle.rpki_signed.specs.declared.check.CheckError.{CheckError}
use Rattle.rpki_signed.specs.declared.check.CheckError.TheVariants.{Decode, Validation}
use Rattle.rpki_show.specs.Locator.{IsLocatorOf}
use Rattle.rpki_sigobj.specs.Signed.Good.{IsNotGood}
use Rattle.rpki_sigobj.specs.Signed.Kind.{ObjectKind}
use Rattle.rpki_sigobj.specs.Signed.Process.{AnswersAsked}
use Rattle.rpki_sigobj.specs.Signed.{cert_in}
use Rattle.rpki_tal.specs.declared.error.ReadError.{ReadError}
use Rattle.rpki_tal.specs.declared.error.ReadError.TheVariants as errors
use Rattle.rpki_validation.specs.Locator.{IsFaultOf, IsLocatorRead}
use Rattle.rpki_validation.specs.Object.{ChecksAsking}
use Rattle.rpki_validation.specs.declared.grounds.Grounds.{Grounds}
use Rattle.rpki_validation.specs.declared.locator.NotLocator.{NotLocator}
use Rattle.rpki_validation.specs.declared.locator.NotLocator.TheVariants as without

-- octets that are not read for this fault are no locator, or memory ran out
pub unread : (octets : List ℕ) (e : ReadError) (f : NotLocator) → IsLocatorOf octets (Err e)
    → IsFaultOf e f → IsLocatorRead octets (Err f)
unread octets e without.Memory h g = tt
unread octets errors.Memory without.NoLocator h g = absurd cc
unread octets errors.Io without.NoLocator h g = h
unread octets errors.UnexpectedEof without.NoLocator h g = h
unread octets (errors.BadUri cause) without.NoLocator h g = h
unread octets errors.BadKeyInfoEncoding without.NoLocator h g = h
unread octets (errors.BadKeyInfo cause) without.NoLocator h g = h

-- ---- what a check answers

asked-more : {X : Type 0} (before : List (checks.Check ValidationError)) (IsValid : Validated → Type 0)
    (Says More : Result (Unit {0}) ValidationError → Type 0)
    (held : Sets → List (checks.Check ValidationError)) (content : X)
    (result : Result (Validated × X) ValidationError)
    → ((said : Result (Unit {0}) ValidationError) → Says said → More said)
    → AnswersAsked before IsValid Says held content result
    → AnswersAsked before IsValid More held content result
asked-more before IsValid Says More held content result more (inl e) = inl e
asked-more before IsValid Says More held content result more (inr a) = inr (record {
  valid = a.valid;
  said = a.said;
  asked = λ all. let p = a.asked all in (p.0, more a.said p.1);
  first = a.first;
})

module _ {X : Type 0} (kind : ObjectKind X) (form : List ℕ → X → Type 0) (mode : Mode) (g : Grounds)
    {Says : KeptCertificate → Result (Unit {0}) ValidationError → Type 0}
    (More : KeptCertificate → Result (Unit {0}) ValidationError → Type 0)
    (more : (k : KeptCertificate) (said : Result (Unit {0}) ValidationError) → Says k said
    → More k said)
    (octets : List ℕ) where
  -- what is answered where this is said of certificates, and that more
  pub asking-more : (result : Result (Validated × X) CheckError)
      → ChecksAsking kind form mode g Says octets result
      → ChecksAsking kind form mode g More octets result
  asking-more (Ok a) h = record {
    first = record {
      object = h.first.object;
      rest = h.first.rest;
      front = h.first.front;
      holds = asked-more _ _ _ _ _ _ _ (more _) h.first.holds;
    };
    exact = record {
      object = h.exact.object;
      rest = h.exact.rest;
      front = h.exact.front;
      holds = let p = h.exact.holds in (more _ _ p.0, p.1, p.2);
    };
  }
  asking-more (Err (Decode e)) h = record { first = h.first; exact = h.exact }
  asking-more (Err (Validation fault)) h = record {
    first = record {
      object = h.first.object;
      rest = h.first.rest;
      front = h.first.front;
      holds = asked-more _ _ _ _ _ _ _ (more _) h.first.holds;
    };
    exact = record {
      object = h.exact.object;
      rest = h.exact.rest;
      front = h.exact.front;
      holds = none h.exact.holds;
    };
  }
    where
      none : (fault ≡ validation.Memory)
          ⊎ IsNotGood kind mode sha256 is_rsa_signature g.issuer g.moment
          (Says (cert_in mode h.exact.object)) h.exact.object fault
          → (fault ≡ validation.Memory)
          ⊎ IsNotGood kind mode sha256 is_rsa_signature g.issuer g.moment
          (More (cert_in mode h.exact.object)) h.exact.object fault
      none (inl e) = inl e
      none (inr n) = inr (λ v good. more _ _ (n v good))
