-- Octets that may hold the certificate of a CA: it is one with its numbers, or there is none.
use Rattle.std.proofs.Common.{◌≡◌, inl, inr, ℕ, List, [], ◌∷◌, Ok, Err, refl, subst}
use Rattle.rpki_der.specs.declared.mode.Mode.TheVariants.{Der}
use Rattle.rpki_der.specs.declared.error.DecodeError.TheVariants as errors
use Rattle.rpki_crls.specs.Crl.{RevocationList}
use Rattle.rpki_faults.specs.Checks.{◌unless◌, AllHold}
use Rattle.rpki_faults.specs.declared.validation.ValidationError.TheVariants.{Verification}
use Rattle.rpki_faults.specs.declared.verification.VerificationError.TheVariants.{Caller}
use Rattle.rpki_faults.proofs.Order.{first-fails, hold-join, hold-split}
use Rattle.rpki_certs.specs.Cert.{Certificate, CertForm}
use Rattle.rpki_certs.specs.Validate.{Validated, IsResourceCert, ca_validation}
use Rattle.rpki_certs.specs.declared.issuer.IssuerError.{IssuerError}
use Rattle.rpki_certs.specs.declared.issuer.IssuerError.TheVariants.{Decode, Validation}
use Rattle.rpki_relying_party.specs.Memory.{IsIssuerMemory, plain_issuer}
use Rattle.rpki_relying_party.specs.Setting.{Setting}
use Rattle.rpki_relying_party.specs.Point.{IsUnrevoked}
use Rattle.rpki_relying_party.specs.Tells.{HasCa}
use Rattle.rpki_relying_party.specs.Under.{IsCaUnder, ca_checks}
use Rattle.rpki_relying_party.proofs.Objects.{refuses, malformed-memory}

module _ (s : Setting) (ca : Validated) (list : RevocationList) (octets : List ℕ) where
  -- what is answered is the certificate of a CA
  pub has-ca : (v : Validated) → IsCaUnder s.verdict s.now ca list octets (Ok v)
      → IsResourceCert v → HasCa s ca list octets v
  has-ca v h r =
      let both = hold-split (ca_validation s.verdict h.cert ca s.now)
      ((Verification Caller unless IsUnrevoked list h.cert) ∷ []) (h.holds.0) in
      record {
        cert = h.cert;
        rest = h.rest;
        front = h.front;
        holds = (both.0, both.1.0, h.holds.1, r.sets);
      }

  -- a fault without what it has of the octets refuses them as well
  pub plain-ca : (error : IssuerError) → IsCaUnder s.verdict s.now ca list octets (Err error)
      → (¬ IsIssuerMemory error)
      → IsCaUnder s.verdict s.now ca list octets (Err (plain_issuer error))
      × (¬ IsIssuerMemory (plain_issuer error))
      × (plain_issuer (plain_issuer error) ≡ plain_issuer error)
  plain-ca (Decode errors.Memory) h m = absurd (m refl)
  plain-ca (Decode errors.Malformed) h m = (h, malformed-memory, refl)
  plain-ca (Decode (errors.Content f)) h m = (h, malformed-memory, refl)
  plain-ca (Validation fault) h m = (h, m, refl)

  -- where a fault is, unless memory ran out, there is none
  pub has-no-ca : (error : IssuerError) → IsCaUnder s.verdict s.now ca list octets (Err error)
      → ¬ IsIssuerMemory error → (v : Validated) → ¬ HasCa s ca list octets v
  has-no-ca (Decode e) h m v w = m (refuses (CertForm Der) octets w.cert w.rest e h w.front)
  has-no-ca (Validation fault) h m v w = elim h.holds [
    | inl memory ↦ m memory
    | inr first ↦
        first-fails (ca_checks s.verdict s.now ca list h.cert) fault first
        (subst (λ (c : Certificate). AllHold (ca_checks s.verdict s.now ca list c))
        (h.front.only w.cert w.rest w.front.found).0
        (hold-join (ca_validation s.verdict w.cert ca s.now)
        ((Verification Caller unless IsUnrevoked list w.cert) ∷ [])
        (w.holds.0, (w.holds.1, tt))))
  ]
