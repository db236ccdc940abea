-- What is found of octets that may begin with a multi-signed attestation.
use Rattle.std.specs.Prelude.{◌≡◌, ℕ, List, [], ◌∷◌, ◌++◌, All, map, Option, None, Some}
use Rattle.std.specs.Prelude.{false, IfErr, Result, Ok, Err}
use Rattle.sha2.specs.Sha256.{sha256}
use Rattle.rpki_basics.specs.Moment.{Moment}
use Rattle.rpki_certs.specs.Cert.{Certificate, KeptCertificate}
use Rattle.rpki_certs.specs.Validate.{Validated}
use Rattle.rpki_crls.specs.Crl.{KeptCrl}
use Rattle.rpki_multi.specs.Attestation.{KeptWhole}
use Rattle.rpki_paths.specs.Anchor.{Supply}
use Rattle.rpki_paths.specs.declared.supply.Supplied.{Supplied}
use Rattle.rpki_rsa.specs.Signature.{is_rsa_signature}
use Rattle.rpki_rsa.specs.declared.rsa.Rsa.{Rsa}
use Rattle.rpki_rta.specs.Carried.{set_of}
use Rattle.rpki_rta.specs.Granted.{IsDistinct}
use Rattle.rpki_rta.specs.Refused.{supply_in}
use Rattle.rpki_signed.specs.Attested.{IsExactRta, IsFirstOfRta}
use Rattle.rpki_signed.specs.Headline.{BeginsWithGranted}
use Rattle.rpki_signed.specs.declared.check.CheckError.{CheckError}
use Rattle.rpki_tal.specs.Tal.{Locator}
use Rattle.rpki_validation.specs.Refusal.{is_memory}
use Rattle.rpki_validation.specs.Revoked.{IsAt, IsRevokedAt, IsUnrevoked}
use Rattle.rpki_validation.specs.declared.grounds.Grounds.{Grounds}
use Rattle.rpki_validation.specs.declared.refusal.Refusal.{Refusal}
use Rattle.rpki_validation.specs.declared.refusal.Refusal.TheVariants.{Check, Memory, Revoked}

-- The certificate states the identifier of the issuer's key as that of its authority (RFC 5280,
-- section 4.2.1.1).
abbrev pub IsOfIssuer : Certificate → Certificate → Type 0
IsOfIssuer issuer c =
    c.tbs.extensions.key.authority_key ≡ Some issuer.tbs.extensions.key.subject_key

-- None of the lists revokes this certificate, if it is of this issuer.
abbrev pub IsUnrevokedOf : List KeptCrl → Certificate → Certificate → Type 0
IsUnrevokedOf lists issuer c = IsOfIssuer issuer c → IsUnrevoked lists issuer c

-- None of the lists revokes any of these certificates that is of this issuer.
abbrev pub AreUnrevokedOf : List KeptCrl → Certificate → List KeptCertificate → Type 0
AreUnrevokedOf lists issuer certs = All (λ k. IsUnrevokedOf lists issuer k.certificate) certs

-- One of these certificates is of this issuer, and the list at this place revokes it.
pub record IsOneRevoked (lists : List KeptCrl) (issuer : Certificate) (certs : List KeptCertificate)
    (place : ℕ) : Type 0 where
  pub index : ℕ
  pub cert : KeptCertificate
  pub placed : IsAt certs index cert
  pub of_issuer : IsOfIssuer issuer cert.certificate
  pub revoked : IsRevokedAt lists issuer cert.certificate place

-- What a check of an attestation answers at this moment under these supplies: a yes only where the
-- octets begin with one that is granted, and a refusal only where they begin with none, or with one
-- that is not, if the identifiers of what it carries are distinct (`IsExactRta`). Where they begin
-- with one, a refusal names the fault of the first thing that fails. `given` has the locators and
-- CAs that supply these.
pub record IsAttested (now : Moment) (supplies : List Supply) (octets : List ℕ)
    (result : Result KeptWhole CheckError) : Type 0 where
  pub given : List (Supplied Locator Validated)
  pub same : map supply_in given ≡ supplies
  pub first : IfErr result (IsFirstOfRta (λ (_ : Rsa). sha256) (λ (_ : Rsa). is_rsa_signature)
      (record {}) now given octets)
  pub exact : IsExactRta sha256 is_rsa_signature now supplies octets result

-- what a locator supplies, if there is one: its key
abbrev pub located : Option Locator → List Supply
located None = []
located (Some locator) = Supply.Tal locator.key ∷ []

-- an issuer as a CA that is supplied
abbrev pub supply_of : Validated → Supply
supply_of v = Supply.Ca v.cert.certificate.tbs.extensions.key.subject_key v.cert.certificate.tbs.key
    (set_of v.sets)

-- what these grounds supply: the locator, if there is one, and the issuer as a CA
abbrev pub supplies_on : Grounds → List Supply
supplies_on g = located g.locator ++ supply_of g.issuer ∷ []

-- what is found on these grounds: an attestation that is granted, and of whose certificates no list
-- revokes one of the issuer, or why there is none, unless memory ran out
abbrev pub IsGrantedOn : Grounds → List ℕ → Result KeptWhole Refusal → Type 0
IsGrantedOn g octets (Ok k) = IsAttested g.moment (supplies_on g) octets (Ok k)
    × AreUnrevokedOf g.lists.items g.issuer.cert.certificate k.signed.certs
IsGrantedOn g octets (Err (Check fault)) =
    IsAttested g.moment (supplies_on g) octets (Err fault)
IsGrantedOn g octets (Err (Revoked place)) = (k : KeptWhole)
    × IsAttested g.moment (supplies_on g) octets (Ok k)
    × IsOneRevoked g.lists.items g.issuer.cert.certificate k.signed.certs place
IsGrantedOn g octets (Err Memory) = Unit {0}
IsGrantedOn g octets (Err other) = ⊥

-- On these grounds the octets begin with a good attestation: it is granted, and no list revokes a
-- certificate of it that is of the issuer.
pub record IsGoodRtaOn (g : Grounds) (octets : List ℕ) : Type 0 where
  pub granted : BeginsWithGranted sha256 is_rsa_signature g.moment (supplies_on g) octets
  pub unrevoked : All (λ c. IsUnrevokedOf g.lists.items g.issuer.cert.certificate c)
      granted.object.signed.certs

-- On any grounds an attestation is found only where the octets begin with a good one. Where a check
-- refuses them, and not for want of memory, no attestation at their beginning is granted and has
-- distinct identifiers. Where a list revokes one of its certificates, they begin with no good one.
pub record IsRtaDecided : Type 0 where
  pub yes : (g : Grounds) (octets : List ℕ) (k : KeptWhole) → IsGrantedOn g octets (Ok k)
      → IsGoodRtaOn g octets
  pub no : (g : Grounds) (octets : List ℕ) (fault : CheckError)
      → IsGrantedOn g octets (Err (Check fault)) → is_memory (Check fault) ≡ false
      → (granted : BeginsWithGranted sha256 is_rsa_signature g.moment (supplies_on g) octets)
      → ¬ (IsDistinct sha256 is_rsa_signature granted.object)
  pub revoked : (g : Grounds) (octets : List ℕ) (place : ℕ)
      → IsGrantedOn g octets (Err (Revoked place)) → ¬ IsGoodRtaOn g octets
