-- Revocation lists that are given: which of them count, and what they revoke.
use Rattle.std.specs.Prelude.{◌≡◌, ℕ, ◌<◌, List, All, Contains, length, slice_index_or, take}
use Rattle.rpki_der.specs.declared.mode.Mode.TheVariants.{Der}
use Rattle.rpki_der.specs.Form.Decodes.{IsOnlyFront}
use Rattle.rpki_certs.specs.Cert.{Certificate}
use Rattle.rpki_crls.specs.Crl.{CrlForm, IsSignedBy, KeptCrl, RevocationList}
use Rattle.rpki_rsa.specs.Signature.{is_rsa_signature}

-- The octets begin with this list, in DER, and with no other.
abbrev pub IsList : List ℕ → RevocationList → Type 0
IsList octets list = (rest : List ℕ) × IsOnlyFront (CrlForm Der) octets list rest

-- The octets begin with the list that is kept, which was read in DER.
abbrev pub IsKeptList : List ℕ → KeptCrl → Type 0
IsKeptList octets k = IsList octets k.list × (k.mode ≡ Der)

-- A list counts for an issuer: it states the identifier of the issuer's key, and that key signed it
-- (RFC 6487, section 7.2; RFC 5280, sections 5.2.1 and 6.3.3). That its times are not looked at is
-- this project's own rule.
pub record IsListOf (issuer : Certificate) (list : RevocationList) : Type 0 where
  pub identifier : list.tbs.extensions.authority_key ≡ issuer.tbs.extensions.key.subject_key
  pub signed : IsSignedBy is_rsa_signature issuer.tbs.key list

-- A list revokes a certificate of this issuer: it counts for the issuer, and an entry has the
-- serial number of the certificate (RFC 5280, section 5.1.2.6).
abbrev pub Revokes : Certificate → Certificate → RevocationList → Type 0
Revokes issuer c list = IsListOf issuer list × Contains list.tbs.revoked c.tbs.serial_number

-- None of the lists revokes the certificate of this issuer.
abbrev pub IsUnrevoked : List KeptCrl → Certificate → Certificate → Type 0
IsUnrevoked lists issuer c = All (λ l. ¬ Revokes issuer c l.list) lists

-- This item stands at this place.
pub record IsAt {X : Type 0} (items : List X) (place : ℕ) (item : X) : Type 0 where
  pub there : place < length items
  pub is : slice_index_or items place item ≡ item

-- The list at this place revokes the certificate of this issuer, and none before it does.
pub record IsRevokedAt (lists : List KeptCrl) (issuer c : Certificate) (place : ℕ) : Type 0 where
  pub list : KeptCrl
  pub placed : IsAt lists place list
  pub revokes : Revokes issuer c list.list
  pub first : IsUnrevoked (take place lists) issuer c
