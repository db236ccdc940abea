-- Validating certificates: the checks, their order, and the resources of a valid certificate.
use Rattle.std.specs.Prelude.{◌≡◌, ℕ, List, [], ◌∷◌, ◌++◌}
use Rattle.sha1.specs.Sha1.{sha1}
use Rattle.rpki_basics.specs.Moment.{Moment}
use Rattle.rpki_resources.specs.declared.block.Block.{Block}
use Rattle.rpki_resources.specs.Blocks.{Covers, IsCanonical}
use Rattle.rpki_resources.specs.Claim.{HasBlocks}
use Rattle.rpki_faults.specs.Checks.{Check, ◌unless◌, ◌as_faults_of◌}
use Rattle.rpki_faults.specs.Validated.{IsAllowed, IsValidated}
use Rattle.rpki_faults.specs.declared.family.Family.TheVariants.{As, V4, V6}
use Rattle.rpki_faults.specs.declared.validation.ValidationError.{ValidationError}
use Rattle.rpki_faults.specs.declared.validation.ValidationError.TheVariants.{Inspection}
use Rattle.rpki_faults.specs.declared.validation.ValidationError.TheVariants.{Verification}
use Rattle.rpki_faults.specs.declared.verification.VerificationError.{VerificationError}
use Rattle.rpki_faults.specs.declared.verification.VerificationError.TheVariants.{Overclaimed}
use Rattle.rpki_extensions.specs.declared.claims.Claims.{Claims}
use Rattle.rpki_certs.specs.Cert.{Certificate, KeptCertificate}
use Rattle.rpki_certs.specs.Inspect.{ta_checks, ca_checks, ee_checks, detached_ee_checks}
use Rattle.rpki_certs.specs.Verify.{Verdict, claim_checks, validity_checks, signature_checks}
use Rattle.rpki_certs.specs.Verify.{ta_ref_checks, IsClaimedOf, IsInTime, IsSignedBy}

-- One set of resources for each family.
pub record Sets : Type 0 where
  pub as_numbers : List (Block ℕ)
  pub v4 : List (Block ℕ)
  pub v6 : List (Block ℕ)

-- A validated certificate and its resources.
pub record Validated : Type 0 where
  pub cert : KeptCertificate
  pub sets : Sets

-- Each set is in its canonical form, the only one it has (RFC 3779, sections 2.2.3.6 and 3.2.3.4).
pub record AreCanonical (sets : Sets) : Type 0 where
  pub as_numbers : IsCanonical (λ (n : ℕ). n) sets.as_numbers
  pub v4 : IsCanonical (λ (n : ℕ). n) sets.v4
  pub v6 : IsCanonical (λ (n : ℕ). n) sets.v6

-- Holds for every validated certificate, whoever issued it: it states the identifier of its own key
-- (RFC 6487, section 4.8.2), and its sets are canonical.
pub record IsResourceCert (v : Validated) : Type 0 where
  pub identifier : v.cert.certificate.tbs.extensions.key.subject_key
      ≡ sha1 v.cert.certificate.tbs.key
  pub sets : AreCanonical v.sets

-- The issuer allows the claim to AS numbers: if the policy refuses an overclaim, the issuer has all
-- that is claimed (RFC 6487, section 7.2).
abbrev pub as_check : Claims → Sets → Check ValidationError
as_check x issuer =
    Verification (Overclaimed As)
    unless IsAllowed (λ (n : ℕ). n) x.policy x.as_numbers issuer.as_numbers

-- The issuer allows the claim to IPv4 addresses.
abbrev pub v4_check : Claims → Sets → Check ValidationError
v4_check x issuer =
    Verification (Overclaimed V4)
    unless IsAllowed (λ (n : ℕ). n) x.policy x.addresses.v4 issuer.v4

-- The issuer allows the claim to IPv6 addresses.
abbrev pub v6_check : Claims → Sets → Check ValidationError
v6_check x issuer =
    Verification (Overclaimed V6)
    unless IsAllowed (λ (n : ℕ). n) x.policy x.addresses.v6 issuer.v6

-- The issuer allows the claims, checked family by family in this order.
abbrev pub covering_checks : Claims → Sets → List (Check ValidationError)
covering_checks x issuer = as_check x issuer ∷ v4_check x issuer ∷ v6_check x issuer ∷ []

-- The issuer's sets allow the claim of each family.
pub record AreAllowed (x : Claims) (issuer : Sets) : Type 0 where
  pub as_numbers : IsAllowed (λ (n : ℕ). n) x.policy x.as_numbers issuer.as_numbers
  pub v4 : IsAllowed (λ (n : ℕ). n) x.policy x.addresses.v4 issuer.v4
  pub v6 : IsAllowed (λ (n : ℕ). n) x.policy x.addresses.v6 issuer.v6

-- Each set is what validation leaves of the claim (RFC 6487, section 7.2; RFC 8360, section
-- 4.2.4.4).
pub record AreValidated (x : Claims) (issuer sets : Sets) : Type 0 where
  pub as_numbers : IsValidated (λ (n : ℕ). n) x.policy x.as_numbers issuer.as_numbers
      sets.as_numbers
  pub v4 : IsValidated (λ (n : ℕ). n) x.policy x.addresses.v4 issuer.v4 sets.v4
  pub v6 : IsValidated (λ (n : ℕ). n) x.policy x.addresses.v6 issuer.v6 sets.v6

-- The issuer has everything in these sets.
pub record AreHeld (issuer sets : Sets) : Type 0 where
  pub as_numbers : Covers (λ (n : ℕ). n) issuer.as_numbers sets.as_numbers
  pub v4 : Covers (λ (n : ℕ). n) issuer.v4 sets.v4
  pub v6 : Covers (λ (n : ℕ). n) issuer.v6 sets.v6

-- Each set is exactly what is claimed, and empty if the family is missing. No set satisfies this if
-- the family is inherited.
pub record AreClaimed (x : Claims) (sets : Sets) : Type 0 where
  pub as_numbers : HasBlocks x.as_numbers sets.as_numbers
  pub v4 : HasBlocks x.addresses.v4 sets.v4
  pub v6 : HasBlocks x.addresses.v6 sets.v6

-- Verifying a certificate under its issuer's: what it states of the issuer, then its validity time,
-- then its signature.
abbrev pub issuing_checks : Verdict → Certificate → Certificate → Moment
    → List (Check VerificationError)
issuing_checks verdict c issuer now =
    claim_checks issuer.tbs c.tbs
    ++ (validity_checks c.tbs.validity now ++ signature_checks verdict issuer.tbs.key c)

-- Checking a certificate under a validated issuer: verify it, then check its claims.
abbrev pub issued_validation : Verdict → Certificate → Validated → Moment
    → List (Check ValidationError)
issued_validation verdict c issuer now =
    (Verification as_faults_of issuing_checks verdict c issuer.cert.certificate now)
    ++ covering_checks c.tbs.extensions.claims issuer.sets

-- A trust anchor's certificate is valid if it fits the profile, is valid now, and is signed by its
-- own key (RFC 6487, section 7; RFC 8630, section 3).
unfoldable pub ta_validation : Verdict → Certificate → Moment → List (Check ValidationError)
ta_validation verdict c now =
    (Inspection as_faults_of ta_checks c.tbs)
    ++ (Verification as_faults_of ta_ref_checks verdict c now)

-- A CA's certificate is valid under this issuer if it fits the profile, verifies under the issuer,
-- and the issuer allows its claims (RFC 6487, section 7.2). The order is this project's own. That
-- section also asks whether the issuer has revoked the certificate; leaving that to the caller is
-- this project's own rule.
unfoldable pub ca_validation : Verdict → Certificate → Validated → Moment
    → List (Check ValidationError)
ca_validation verdict c issuer now =
    (Inspection as_faults_of ca_checks c.tbs)
    ++ issued_validation verdict c issuer now

-- The certificate of a published object is valid under this issuer.
unfoldable pub ee_validation : Verdict → Certificate → Validated → Moment
    → List (Check ValidationError)
ee_validation verdict c issuer now =
    (Inspection as_faults_of ee_checks c.tbs)
    ++ issued_validation verdict c issuer now

-- The certificate of an object that need not be published is valid under this issuer.
unfoldable pub detached_ee_validation : Verdict → Certificate → Validated → Moment
    → List (Check ValidationError)
detached_ee_validation verdict c issuer now =
    (Inspection as_faults_of detached_ee_checks c.tbs)
    ++ issued_validation verdict c issuer now

-- A trust anchor's certificate is good: it is valid now and signed by its own key.
pub record IsGoodAnchor (verdict : Verdict) (c : Certificate) (now : Moment) : Type 0 where
  pub in_time : IsInTime c.tbs.validity now
  pub signed : IsSignedBy verdict c.tbs.key c

-- A certificate is good under this issuer: it states the issuer's key, is valid now, is signed by
-- the issuer's key, and the issuer allows its claims.
pub record IsGoodUnder (verdict : Verdict) (c : Certificate) (issuer : Validated)
    (now : Moment) : Type 0 where
  pub claimed : IsClaimedOf issuer.cert.certificate.tbs c.tbs
  pub in_time : IsInTime c.tbs.validity now
  pub signed : IsSignedBy verdict issuer.cert.certificate.tbs.key c
  pub allowed : AreAllowed c.tbs.extensions.claims issuer.sets

-- A trust anchor's certificate with exactly the sets it claims.
unfoldable pub IsAnchorOf : KeptCertificate → Validated → Type 0
IsAnchorOf c v = (v.cert ≡ c) × AreClaimed c.certificate.tbs.extensions.claims v.sets

-- A certificate with the sets that validation under this issuer leaves.
unfoldable pub IsValidatedUnder : KeptCertificate → Validated → Validated → Type 0
IsValidatedUnder c issuer v =
    (v.cert ≡ c) × AreValidated c.certificate.tbs.extensions.claims issuer.sets v.sets
