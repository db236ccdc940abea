-- The certificate of a CA is valid, and the list does not revoke it.
use Rattle.std.proofs.Common.{inl, inr, ℕ, List, [], ◌∷◌, Ok, Err, sym, subst}
use Rattle.rpki_basics.specs.Moment.{Moment}
use Rattle.rpki_crls.specs.Crl.{RevocationList}
use Rattle.rpki_certs.specs.Cert.{Certificate, KeptCertificate}
use Rattle.rpki_certs.specs.Issuer.{IsIssued}
use Rattle.rpki_certs.specs.Validate.{Validated, ca_validation, IsValidatedUnder}
use Rattle.rpki_certs.specs.Verify.{Verdict}
use Rattle.rpki_certs.specs.declared.issuer.IssuerError.{IssuerError}
use Rattle.rpki_certs.specs.declared.issuer.IssuerError.TheVariants.{Decode, Validation}
use Rattle.rpki_faults.specs.Checks.{◌unless◌, Check}
use Rattle.rpki_faults.specs.declared.validation.ValidationError.{ValidationError}
use Rattle.rpki_faults.specs.declared.validation.ValidationError.TheVariants.{Verification}
use Rattle.rpki_faults.specs.declared.verification.VerificationError.TheVariants.{Caller}
use Rattle.rpki_faults.proofs.Order.{first-join, hold-join}
use Rattle.rpki_relying_party.specs.Point.{IsUnrevoked}
use Rattle.rpki_relying_party.specs.Under.{SaysOf, IsCaUnder}

module _ (verdict : Verdict) (now : Moment) (issuer : Validated) (list : RevocationList)
    (octets : List ℕ) where
  abbrev valid_checks : Certificate → List (Check ValidationError)
  valid_checks c = ca_validation verdict c issuer now

  abbrev revoked_checks : Certificate → List (Check ValidationError)
  revoked_checks c = (Verification Caller unless IsUnrevoked list c) ∷ []

  pub invalid : (error : IssuerError) → IsIssued verdict now issuer octets (Err error)
      → IsCaUnder verdict now issuer list octets (Err error)
  invalid (Decode e) h = h
  invalid (Validation fault) h = record {
    cert = h.cert;
    rest = h.rest;
    front = h.front;
    holds = elim h.holds [
      | inl memory ↦ inl memory
      | inr first ↦
          inr (first-join (valid_checks h.cert) (revoked_checks h.cert) fault (inl first))
    ];
  }

  module _ (v : Validated) (h : IsIssued verdict now issuer octets (Ok v)) where
    pub valid : SaysOf list v.cert (Ok tt) → IsCaUnder verdict now issuer list octets (Ok v)
    unfolding IsValidatedUnder
    valid said = record {
      cert = h.cert;
      rest = h.rest;
      front = h.front;
      holds = (
        hold-join (valid_checks h.cert) (revoked_checks h.cert) (
          h.holds.0,
          (
            subst (λ (k : KeptCertificate). IsUnrevoked list k.certificate) (h.holds.1.0) (said.0),
            tt,
          ),
        ),
        h.holds.1,
      );
    }

    pub revoked : (fault : ValidationError) → SaysOf list v.cert (Err fault)
        → IsCaUnder verdict now issuer list octets (Err (Validation fault))
    unfolding IsValidatedUnder
    revoked fault said = record {
      cert = h.cert;
      rest = h.rest;
      front = h.front;
      holds = inr (first-join (valid_checks h.cert) (revoked_checks h.cert) fault (inr (
        h.holds.0,
        elim said [
          | inl s ↦ absurd (s.1)
          | inr s ↦ inr (
            λ u. s.0 (subst (λ (k : KeptCertificate). IsUnrevoked list k.certificate)
                (sym (h.holds.1.0)) u),
            s.1,
          )
        ],
      )));
    }
