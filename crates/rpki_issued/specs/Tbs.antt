-- A certificate that is not signed yet, and why it is not signed.
use Rattle.std.specs.Prelude.{◌≡◌, ℕ, ◌<◌, ◌^◌, List, ◌++◌, length, Option, None, Some, IfSome}
use Rattle.std.specs.Prelude.{false, ◌⊎◌}
use Rattle.sha1.specs.Sha1.{sha1}
use Rattle.rpki_der.specs.declared.mode.Mode.TheVariants.{Der}
use Rattle.rpki_der.specs.Captured.{Kept}
use Rattle.rpki_basics.specs.Name.{key_name_octets}
use Rattle.rpki_basics.specs.Moment.{Period}
use Rattle.rpki_basics.specs.declared.signing.SigningError.{SigningError}
use Rattle.rpki_basics.specs.declared.signing.SigningError.TheVariants as error
use Rattle.rpki_resources.specs.declared.block.Block.{Block}
use Rattle.rpki_resources.specs.declared.resources.Claim.{Claim}
use Rattle.rpki_extensions.specs.declared.access.SubjectAccess.{SubjectAccess}
use Rattle.rpki_extensions.specs.declared.claims.Claims.{Claims}
use Rattle.rpki_extensions.specs.declared.extensions.Extensions.{Extensions}
use Rattle.rpki_extensions.specs.declared.keys.KeyFacts.{KeyFacts}
use Rattle.rpki_extensions.specs.declared.locations.Locations.{Locations}
use Rattle.rpki_certs.specs.Cert.{Tbs}
use Rattle.rpki_issued.specs.Written.{tbs_contents, tbs_octets, cert_contents}
use Rattle.rpki_issued.specs.Written.{issuer_fields_octets, subject_fields_octets}

-- What is to be signed: names with the modes that they were read in, the key as its bits. Without a
-- subject it is the name of the key.
pub record Unsigned : Type 0 where
  pub serial_number : ℕ
  pub issuer : Kept
  pub validity : Period
  pub subject : Option Kept
  pub key : List ℕ
  pub extensions : Extensions

-- The identifier of the key is that of its bits, and no extended key usage is said.
pub record IsUnsigned (u : Unsigned) : Type 0 where
  pub subject_key : u.extensions.key.subject_key ≡ sha1 u.key
  pub no_purposes : u.extensions.key.has_purposes ≡ false

-- ---- with another value

-- what is to be signed, with this said of the key
abbrev pub with_key : Unsigned → KeyFacts → Unsigned
with_key u x = record u { extensions = record u.extensions { key = x } }

-- what is to be signed, with these places
abbrev pub with_locations : Unsigned → Locations → Unsigned
with_locations u x = record u { extensions = record u.extensions { locations = x } }

-- what is to be signed, with these places of what the subject has
abbrev pub with_access : Unsigned → SubjectAccess → Unsigned
with_access u x = with_locations u (record u.extensions.locations { subject = x })

-- what is to be signed, with these claims
abbrev pub with_claims : Unsigned → Claims → Unsigned
with_claims u x = record u { extensions = record u.extensions { claims = x } }

-- what is to be signed, with this claim of AS numbers
abbrev pub with_as : Unsigned → Claim (List (Block ℕ)) → Unsigned
with_as u claim = with_claims u (record u.extensions.claims { as_numbers = claim })

-- what is to be signed, with this claim of IPv4 addresses
abbrev pub with_v4 : Unsigned → Claim (List (Block ℕ)) → Unsigned
with_v4 u claim =
    with_claims u (record u.extensions.claims {
      addresses = record u.extensions.claims.addresses { v4 = claim };
    })

-- what is to be signed, with this claim of IPv6 addresses
abbrev pub with_v6 : Unsigned → Claim (List (Block ℕ)) → Unsigned
with_v6 u claim =
    with_claims u (record u.extensions.claims {
      addresses = record u.extensions.claims.addresses { v6 = claim };
    })

-- ---- what is signed

-- the octets of the subject: a name, or that of the key, which is this project's own rule (RFC
-- 6487, section 4.5)
abbrev pub subject_octets : Option Kept → List ℕ → List ℕ
subject_octets None key = key_name_octets (sha1 key)
subject_octets (Some name) key = name.octets

-- what is signed
abbrev pub tbs_of : Unsigned → Tbs
tbs_of u = record {
  serial_number = u.serial_number;
  issuer = u.issuer.octets;
  validity = u.validity;
  subject = subject_octets u.subject u.key;
  key = u.key;
  extensions = u.extensions;
}

-- the fields up to the issuer, and those from the validity on, with these octets of the subject
abbrev pub fields_octets : Unsigned → List ℕ → List ℕ
fields_octets u subject =
    issuer_fields_octets u.serial_number u.issuer.octets
    ++ subject_fields_octets u.validity subject u.key u.extensions

-- No name was read in BER.
abbrev pub NamesInDer : Unsigned → Type 0
NamesInDer u = (u.issuer.mode ≡ Der) × IfSome u.subject (λ name. name.mode ≡ Der)

-- Why a certificate is not signed: a fault of the signer, a name in BER, or contents of 2^32 octets
-- or more, without a signature or with one that the signer may answer; or memory ran out.
abbrev pub IsNotSigned : {E : Type 0} → (List ℕ → List ℕ → Type 0) → Unsigned → SigningError E
    → Type 0
IsNotSigned may u error.KeyNotFound = Unit {0}
IsNotSigned may u error.IncompatibleKey = Unit {0}
IsNotSigned may u (error.Signer e) = Unit {0}
IsNotSigned may u error.AttrsTooLong = ⊥
IsNotSigned may u error.TooLong =
    (¬ (length (tbs_contents (tbs_of u)) < 2 ^ 32))
    ⊎ ((s : List ℕ) × may (tbs_octets (tbs_of u)) s
    × ¬ (length (cert_contents (tbs_of u) s) < 2 ^ 32))
IsNotSigned may u (error.Content fault) = ⊥
IsNotSigned may u error.NotDer = ¬ NamesInDer u
IsNotSigned may u error.Memory = Unit {0}
