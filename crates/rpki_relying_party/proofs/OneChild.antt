-- Octets that may hold the certificate of a CA: it is one with its numbers, or it is refused by one
-- fault.
use Rattle.std.proofs.Common.{◌≡◌, ◌⊎◌, inl, inr, ℕ, List, Err, sym, subst, ap, ◌∙◌}
use Rattle.rpki_der.specs.declared.mode.Mode.TheVariants.{Der}
use Rattle.rpki_crls.specs.Crl.{RevocationList}
use Rattle.rpki_resources.specs.declared.block.Block.{Block}
use Rattle.rpki_resources.specs.declared.resources.Claim.{Claim}
use Rattle.rpki_resources.specs.declared.resources.Claim.TheVariants.{Missing, Inherit, Explicit}
use Rattle.rpki_resources.specs.Blocks.{IsCanonical}
use Rattle.rpki_resources.specs.Claim.{HasBlocks}
use Rattle.rpki_resources.proofs.Sets.Same.{same_blocks}
use Rattle.rpki_faults.specs.Checks.{IsFirstFault}
use Rattle.rpki_faults.specs.declared.validation.ValidationError.{ValidationError}
use Rattle.rpki_faults.specs.declared.validation.ValidationError.TheVariants as faults
use Rattle.rpki_faults.proofs.Order.{first-one}
use Rattle.rpki_faults.specs.Validated.{IsLeft, IsValidated}
use Rattle.rpki_faults.specs.declared.overclaim.Overclaim.{Overclaim}
use Rattle.rpki_faults.specs.declared.overclaim.Overclaim.TheVariants.{Refuse, Trim}
use Rattle.rpki_certs.specs.Cert.{Certificate, KeptCertificate, CertForm}
use Rattle.rpki_certs.specs.Issuer.{in_der}
use Rattle.rpki_certs.specs.Validate.{Validated, Sets, AreCanonical, AreValidated, IsValidatedUnder}
use Rattle.rpki_certs.specs.declared.issuer.IssuerError.{IssuerError}
use Rattle.rpki_certs.specs.declared.issuer.IssuerError.TheVariants as issuers
use Rattle.rpki_extensions.specs.declared.claims.Claims.{Claims}
use Rattle.rpki_relying_party.specs.Memory.{IsIssuerMemory, plain_issuer}
use Rattle.rpki_relying_party.specs.Setting.{Setting}
use Rattle.rpki_relying_party.specs.Tells.{HasCa}
use Rattle.rpki_relying_party.specs.Under.{IsCaUnder, ca_checks}
use Rattle.rpki_relying_party.proofs.Objects.{refuses}

-- ---- validated sets

-- a claim names one set
pub one-named : (claim : Claim (List (Block ℕ))) (a b : List (Block ℕ)) → HasBlocks claim a
    → HasBlocks claim b → a ≡ b
one-named Missing a b h g = h ∙ sym g
one-named Inherit a b h g = absurd h
one-named (Explicit blocks) a b h g = h ∙ sym g

-- what is inherited names none
none-named : (claim : Claim (List (Block ℕ))) (a : List (Block ℕ)) → claim ≡ Inherit
    → HasBlocks claim a → ⊥
none-named claim a e h =
    subst (λ (c : Claim (List (Block ℕ))). HasBlocks c a) e h

module _ (issuer a b : List (Block ℕ)) (ca : IsCanonical (λ (n : ℕ). n) a)
    (cb : IsCanonical (λ (n : ℕ). n) b) where
  one-left : (policy : Overclaim) (named : List (Block ℕ))
      → IsLeft (λ (n : ℕ). n) policy named issuer a → IsLeft (λ (n : ℕ). n) policy named issuer b
      → a ≡ b
  one-left Refuse named h g = h ∙ sym g
  one-left Trim named h g =
      same_blocks (λ (n : ℕ). n) (λ x y e. e) 0 0 a b ca cb (λ n. h n ∙ sym (g n))

  -- two validated sets of one claim are the same
  one-set : (policy : Overclaim) (claim : Claim (List (Block ℕ)))
      → IsValidated (λ (n : ℕ). n) policy claim issuer a
      → IsValidated (λ (n : ℕ). n) policy claim issuer b → a ≡ b
  one-set policy claim (inl h) (inl g) = h.1 ∙ sym (g.1)
  one-set policy claim (inl h) (inr g) = absurd (none-named claim (g.0) (h.0) (g.1))
  one-set policy claim (inr h) (inl g) = absurd (none-named claim (h.0) (g.0) (h.1))
  one-set policy claim (inr h) (inr g) = one-left policy (h.0) (h.2)
      (subst (λ (n : List (Block ℕ)). IsLeft (λ (m : ℕ). m) policy n issuer b)
      (one-named claim (g.0) (h.0) (g.1) (h.1)) (g.2))

pub same-sets : (a b : Sets) → a.as_numbers ≡ b.as_numbers → a.v4 ≡ b.v4 → a.v6 ≡ b.v6 → a ≡ b
same-sets a b p q r = λ i. record { as_numbers = p i; v4 = q i; v6 = r i }

pub same-validated : (v w : Validated) → v.cert ≡ w.cert → v.sets ≡ w.sets → v ≡ w
same-validated v w p q = λ i. record { cert = p i; sets = q i }

-- canonical validated sets of the same claims are the same
one-sets : (claims : Claims) (issuer a b : Sets) → AreCanonical a → AreCanonical b
    → AreValidated claims issuer a → AreValidated claims issuer b → a ≡ b
one-sets claims issuer a b ca cb h g = same-sets a b
    (one-set issuer.as_numbers a.as_numbers b.as_numbers ca.as_numbers cb.as_numbers claims.policy
    claims.as_numbers h.as_numbers g.as_numbers)
    (one-set issuer.v4 a.v4 b.v4 ca.v4 cb.v4 claims.policy claims.addresses.v4 h.v4 g.v4)
    (one-set issuer.v6 a.v6 b.v6 ca.v6 cb.v6 claims.policy claims.addresses.v6 h.v6 g.v6)

-- a certificate has one canonical way to be validated under an issuer
pub one-validated : (k : KeptCertificate) (issuer v w : Validated) → IsValidatedUnder k issuer v
    → IsValidatedUnder k issuer w → AreCanonical v.sets → AreCanonical w.sets → v ≡ w
unfolding IsValidatedUnder
one-validated k issuer v w h g cv cw = same-validated v w (h.0 ∙ sym (g.0))
    (one-sets k.certificate.tbs.extensions.claims issuer.sets v.sets w.sets cv cw (h.1) (g.1))

-- ---- octets

module _ (s : Setting) (ca : Validated) (list : RevocationList) (octets : List ℕ) where
  pub one-ca : (v w : Validated) → HasCa s ca list octets v → HasCa s ca list octets w → v ≡ w
  one-ca v w a b =
      let same = (a.front.only b.cert b.rest b.front.found).0 in
      one-validated (in_der a.cert) ca v w (a.holds.2)
      (subst (λ (c : Certificate). IsValidatedUnder (in_der c) ca w) same (b.holds.2))
      (a.holds.3) (b.holds.3)

  -- two refusals with nothing of the octets are one
  pub one-refusal : (x y : IssuerError) → IsCaUnder s.verdict s.now ca list octets (Err x)
      → IsCaUnder s.verdict s.now ca list octets (Err y) → ¬ IsIssuerMemory x
      → ¬ IsIssuerMemory y → plain_issuer x ≡ x → plain_issuer y ≡ y → x ≡ y
  one-refusal (issuers.Decode e) (issuers.Decode f) h g m n p q = sym p ∙ q
  one-refusal (issuers.Decode e) (issuers.Validation f) h g m n p q =
      absurd (m (refuses (CertForm Der) octets g.cert g.rest e h g.front))
  one-refusal (issuers.Validation e) (issuers.Decode f) h g m n p q =
      absurd (n (refuses (CertForm Der) octets h.cert h.rest f g h.front))
  one-refusal (issuers.Validation e) (issuers.Validation f) h g m n p q =
      ap (λ (v : ValidationError). issuers.Validation v) (of h.holds g.holds)
    where
      of : (e ≡ faults.Memory) ⊎ IsFirstFault (ca_checks s.verdict s.now ca list h.cert) e
          → (f ≡ faults.Memory) ⊎ IsFirstFault (ca_checks s.verdict s.now ca list g.cert) f
          → e ≡ f
      of (inl memory) k = absurd (m memory)
      of (inr first) (inl memory) = absurd (n memory)
      of (inr first) (inr first2) = first-one (ca_checks s.verdict s.now ca list h.cert) e f first
          (subst (λ (c : Certificate). IsFirstFault (ca_checks s.verdict s.now ca list c) f)
          (h.front.only g.cert g.rest g.front.found).0 first2)
