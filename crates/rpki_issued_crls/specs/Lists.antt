-- Revocation lists that are made. The sections are those of RFC 5280, where no other RFC is named.
use Rattle.std.specs.Prelude.{◌≡◌, ℕ, ◌<◌, ◌^◌, List, [], ◌∷◌, ◌++◌, All, length, map, false, ◌⊎◌}
use Rattle.std.specs.List.{flat_map}
use Rattle.std.proofs.Common.{arith}
use Rattle.sha1.specs.Sha1.{sha1}
use Rattle.rpki_der.specs.Tags.{SEQUENCE, context}
use Rattle.rpki_der.specs.Write.Parts.{contents_small}
use Rattle.rpki_der.specs.Write.Written.{value_octets, number_octets}
use Rattle.rpki_basics.specs.Algorithm.{cert_algorithm_octets}
use Rattle.rpki_basics.specs.Moment.{Moment, IsMoment}
use Rattle.rpki_basics.specs.Name.{key_name_octets}
use Rattle.rpki_basics.specs.Serial.{serial_octets}
use Rattle.rpki_basics.specs.Time.Form.{time_octets}
use Rattle.rpki_basics.specs.declared.signing.SigningError.{SigningError}
use Rattle.rpki_basics.specs.declared.signing.SigningError.TheVariants as error
use Rattle.rpki_extensions.specs.Extensions.{authority_key_identifier}
use Rattle.rpki_crls.specs.declared.extensions.CrlExtensions.{CrlExtensions}
use Rattle.rpki_crls.specs.Crl.{Tbs, RevocationList, v2}
use Rattle.rpki_crls.specs.Extensions.{crl_number}
use Rattle.rpki_issued.specs.Extensions.{extension_octets}
use Rattle.rpki_issued.specs.Signing.{signed_contents}
use Rattle.rpki_issued.specs.Values.{authority_key_octets}
use Rattle.rpki_issued_crls.specs.declared.entry.RevokedCert.{RevokedCert}

-- What is to be signed, but for the name of the issuer: the two times, the entries in their order,
-- and what the extensions say.
pub record UnsignedList : Type 0 where
  pub this_update : Moment
  pub next_update : Moment
  pub revoked : List RevokedCert
  pub extensions : CrlExtensions

-- ---- what can be written

-- The serial number of an entry is below 2^160, and its time is in the calendar.
pub record IsRevokedToWrite (r : RevokedCert) : Type 0 where
  pub serial : r.serial < 2 ^ 160
  pub time : IsMoment r.time

-- The times are in the calendar, the identifier of the issuer's key has 20 octets, and the number
-- is below 2^160.
pub record IsToWrite (u : UnsignedList) : Type 0 where
  pub this_update : IsMoment u.this_update
  pub next_update : IsMoment u.next_update
  pub revoked : All IsRevokedToWrite u.revoked
  pub authority_key : length u.extensions.authority_key ≡ 20
  pub number : u.extensions.number < 2 ^ 160

-- ---- what is written

-- an entry without its header: the serial number and the time, and no extensions (5.1; RFC 6487,
-- section 5)
abbrev pub entry_contents : RevokedCert → List ℕ
entry_contents r = serial_octets r.serial ++ time_octets r.time

-- an entry (5.1)
abbrev pub entry_octets : RevokedCert → List ℕ
entry_octets r = value_octets SEQUENCE (entry_contents r)

-- the entries, which are left out where there are none (5.1.2.6)
abbrev pub revoked_octets : List RevokedCert → List ℕ
revoked_octets [] = []
revoked_octets (r ∷ rs) = value_octets SEQUENCE (flat_map entry_octets (r ∷ rs))

-- where the entries have fewer than 2^32 octets, so have they without their header
pub short_revoked : (rs : List RevokedCert) → length (revoked_octets rs) < 2 ^ 32
    → length (flat_map entry_octets rs) < 2 ^ 32
short_revoked [] h = omega arith
short_revoked (r ∷ rs) h = contents_small SEQUENCE (flat_map entry_octets (r ∷ rs)) h

-- the extensions without the header of their SEQUENCE: the identifier of the issuer's key and the
-- number (RFC 6487, section 5), neither of which is critical (4.2.1.1, 5.2.3)
abbrev pub extensions_contents : CrlExtensions → List ℕ
extensions_contents x =
    extension_octets authority_key_identifier false (authority_key_octets x.authority_key)
    ++ extension_octets crl_number false (serial_octets x.number)

-- the extensions (5.1.2.7)
abbrev pub extensions_octets : CrlExtensions → List ℕ
extensions_octets x = value_octets SEQUENCE (extensions_contents x)

-- what is signed under this name of the issuer, without its header (5.1)
abbrev pub tbs_contents : UnsignedList → List ℕ → List ℕ
tbs_contents u issuer =
    number_octets v2 ++ (cert_algorithm_octets ++ (issuer ++ (time_octets u.this_update
    ++ (time_octets u.next_update ++ (revoked_octets u.revoked
    ++ value_octets (context 0) (extensions_octets u.extensions))))))

-- what is signed under this name of the issuer (5.1)
abbrev pub tbs_octets : UnsignedList → List ℕ → List ℕ
tbs_octets u issuer = value_octets SEQUENCE (tbs_contents u issuer)

-- a list under this name of the issuer with this signature, without its header (5.1)
abbrev pub crl_contents : UnsignedList → List ℕ → List ℕ → List ℕ
crl_contents u issuer signature = signed_contents (tbs_octets u issuer) signature

-- a list under this name of the issuer with this signature (5.1)
abbrev pub crl_octets : UnsignedList → List ℕ → List ℕ → List ℕ
crl_octets u issuer signature = value_octets SEQUENCE (crl_contents u issuer signature)

-- ---- what it says

-- the serial number of an entry
abbrev pub serial_of : RevokedCert → ℕ
serial_of r = r.serial

-- what is signed under this name of the issuer
abbrev pub tbs_of : UnsignedList → List ℕ → Tbs
tbs_of u issuer = record {
  issuer = issuer;
  this_update = u.this_update;
  next_update = u.next_update;
  revoked = map serial_of u.revoked;
  extensions = u.extensions;
}

-- the list that is made under this name of the issuer with this signature
abbrev pub made_list : UnsignedList → List ℕ → List ℕ → RevocationList
made_list u issuer signature = record {
  tbs = tbs_of u issuer;
  signed = tbs_octets u issuer;
  signature = signature;
  octets = crl_octets u issuer signature;
}

-- the name of an issuer whose key has these bits: that of the key, which is this project's own rule
-- (RFC 6487, section 4.5)
abbrev pub name_of : List ℕ → List ℕ
name_of key = key_name_octets (sha1 key)

-- ---- refusals

-- Why a list is not signed under this name of the issuer: a fault of the signer, or contents of
-- 2^32 octets or more, without a signature or with one that the signer may answer; or memory ran
-- out.
abbrev pub IsNotIssued : {E : Type 0} → (List ℕ → List ℕ → Type 0) → UnsignedList → List ℕ
    → SigningError E → Type 0
IsNotIssued may u issuer error.KeyNotFound = Unit {0}
IsNotIssued may u issuer error.IncompatibleKey = Unit {0}
IsNotIssued may u issuer (error.Signer e) = Unit {0}
IsNotIssued may u issuer error.AttrsTooLong = ⊥
IsNotIssued may u issuer error.TooLong =
    (¬ (length (tbs_contents u issuer) < 2 ^ 32))
    ⊎ ((s : List ℕ) × may (tbs_octets u issuer) s
    × ¬ (length (crl_contents u issuer s) < 2 ^ 32))
IsNotIssued may u issuer (error.Content fault) = ⊥
IsNotIssued may u issuer error.NotDer = ⊥
IsNotIssued may u issuer error.Memory = Unit {0}
