-- What is answered of octets, by what a list says of a certificate.
use Rattle.std.proofs.Common.{◌≡◌, ◌⊎◌, inl, inr, ℕ, List, Result, Ok, Err, sym, subst}
use Rattle.std.specs.Prelude.{IfOk}
use Rattle.rpki_der.specs.declared.mode.Mode.TheVariants.{Der}
use Rattle.rpki_basics.specs.Moment.{Moment}
use Rattle.rpki_faults.specs.declared.validation.ValidationError.{ValidationError}
use Rattle.rpki_faults.specs.declared.validation.ValidationError.TheVariants.{Memory}
use Rattle.rpki_crls.specs.Crl.{RevocationList}
use Rattle.rpki_certs.specs.Cert.{KeptCertificate}
use Rattle.rpki_certs.specs.Validate.{Validated, IsValidatedUnder}
use Rattle.rpki_certs.specs.Verify.{Verdict}
use Rattle.rpki_sigobj.specs.Verify.{Digester}
use Rattle.rpki_sigobj.specs.Signed.{cert_in}
use Rattle.rpki_sigobj.specs.Signed.Good.{IsNotGood}
use Rattle.rpki_sigobj.specs.Signed.Kind.{ObjectKind}
use Rattle.rpki_routes.specs.Roa.{Roa}
use Rattle.rpki_routes.specs.Roa.Form.{RoaForm}
use Rattle.rpki_routes.specs.Roa.Checks.{RoaCovered, roa_kind}
use Rattle.rpki_signed.specs.declared.check.CheckError.{CheckError}
use Rattle.rpki_signed.specs.declared.check.CheckError.TheVariants.{Decode, Validation}
use Rattle.rpki_signed.specs.Exact.{IsExact}
use Rattle.rpki_examples.specs.Received.{IsUnrevoked, SaysOf, SaysAs, IsGoodByList, LooksInto}

module _ {X : Type 0} (kind : ObjectKind X) (form : List ℕ → X → Type 0) (digest : Digester)
    (verdict : Verdict) (issuer : Validated) (now : Moment) (octets : List ℕ)
    (list : RevocationList) where
  -- what is answered by what is said is answered by the list
  pub by-list : (Says : KeptCertificate → Result (Unit {0}) ValidationError → Type 0)
      → SaysAs Says list → (r : Result (Validated × X) CheckError)
      → IsExact kind form Der digest verdict issuer now Says octets r
      → IsExact kind form Der digest verdict issuer now (SaysOf list) octets r
  by-list Says means (Ok a) h = record {
    object = h.object;
    rest = h.rest;
    front = h.front;
    holds = (means (cert_in Der h.object) (Ok tt) h.holds.0, h.holds.1, h.holds.2);
  }
  by-list Says means (Err (Decode e)) h = h
  by-list Says means (Err (Validation fault)) h = record {
    object = h.object;
    rest = h.rest;
    front = h.front;
    holds = of h.holds;
  }
    where
      of : (fault ≡ Memory)
          ⊎ IsNotGood kind Der digest verdict issuer now (Says (cert_in Der h.object)) h.object
          fault
          → (fault ≡ Memory)
          ⊎ IsNotGood kind Der digest verdict issuer now (SaysOf list (cert_in Der h.object))
          h.object fault
      of (inl e) = inl e
      of (inr n) = inr (λ v g. means (cert_in Der h.object) (Err fault) (n v g))

  -- what is refused is revoked
  revoked : (k : KeptCertificate) (fault : ValidationError) → SaysOf list k (Err fault)
      → IsUnrevoked list k.certificate → ⊥
  revoked k fault (inl s) u = s.1
  revoked k fault (inr s) u = s.0 u

  module _ {T : Type 0} (P : T → X → Type 0) where
    -- what a look at the content of a good object answers
    pub looked : (a : Validated × X) (t : T)
        → IsExact kind form Der digest verdict issuer now (SaysOf list) octets (Ok a) → P t a.1
        → LooksInto kind form digest verdict issuer now list P octets (Ok t)
    looked a t h p = record {
      object = h.object;
      rest = h.rest;
      front = h.front;
      holds = ((a.0, h.holds.1, h.holds.0.0), subst (P t) h.holds.2 p);
    }

    -- what is answered where there is no good object
    pub refused : (e : CheckError)
        → IsExact kind form Der digest verdict issuer now (SaysOf list) octets (Err e)
        → LooksInto kind form digest verdict issuer now list P octets (Err e)
    refused (Decode e) h = h
    refused (Validation fault) h = record {
      object = h.object;
      rest = h.rest;
      front = h.front;
      holds = of h.holds;
    }
      where
        of : (fault ≡ Memory)
            ⊎ IsNotGood kind Der digest verdict issuer now (SaysOf list (cert_in Der h.object))
            h.object fault
            → (fault ≡ Memory) ⊎ (¬ IsGoodByList kind digest verdict issuer now list h.object)
        of (inl e) = inl e
        of (inr n) = inr (λ g. revoked (cert_in Der h.object) fault (n g.0 g.1) g.2)

-- what a yes means of a ROA
pub roa-held : (digest : Digester) (verdict : Verdict) (issuer : Validated) (now : Moment)
    (octets : List ℕ) (list : RevocationList) (r : Result (Validated × Roa) CheckError)
    → IsExact roa_kind RoaForm Der digest verdict issuer now (SaysOf list) octets r
    → IfOk r (λ a. RoaCovered a.1 a.0.sets × IsUnrevoked list a.0.cert.certificate)
unfolding IsValidatedUnder
roa-held digest verdict issuer now octets list (Ok a) h = (
  subst (λ (x : Roa). RoaCovered x a.0.sets) (sym h.holds.2) h.holds.1.covered,
  subst (λ (k : KeptCertificate). IsUnrevoked list k.certificate) (sym h.holds.1.certificate.0)
      h.holds.0.0,
)
roa-held digest verdict issuer now octets list (Err e) h = tt
