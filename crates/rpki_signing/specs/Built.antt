-- Signed objects that are built, and what a builder of them is told.
use Rattle.std.specs.Prelude.{◌≡◌, ◌≤◌, ℕ, ◌<◌, ◌^◌, ◌⊎◌, List, length, Option, None, Some, IfSome}
use Rattle.std.specs.Prelude.{true, false}
use Rattle.std.specs.List.{concat}
use Rattle.sha1.specs.Sha1.{sha1}
use Rattle.rpki_der.specs.declared.mode.Mode.TheVariants.{Der}
use Rattle.rpki_der.specs.Captured.{Kept}
use Rattle.rpki_basics.specs.Moment.{Moment, Period, stamp}
use Rattle.rpki_basics.specs.Name.{key_name_octets}
use Rattle.rpki_basics.specs.declared.signing.SigningError.{SigningError}
use Rattle.rpki_basics.specs.declared.signing.SigningError.TheVariants as error
use Rattle.rpki_resources.specs.declared.block.Block.{Block}
use Rattle.rpki_resources.specs.declared.resources.Claim.{Claim}
use Rattle.rpki_faults.specs.declared.overclaim.Overclaim.TheVariants as overclaim
use Rattle.rpki_faults.specs.declared.usage.KeyUsage.TheVariants.{Ee}
use Rattle.rpki_attributes.specs.Attrs.{SignedAttributes, most_octets}
use Rattle.rpki_attributes.specs.Attrs.Made.{AreMade, attributes_of, message_of}
use Rattle.rpki_extensions.specs.declared.claims.Claims.{Claims}
use Rattle.rpki_extensions.specs.declared.extensions.Extensions.{Extensions}
use Rattle.rpki_certs.specs.Inspect.{NamesNothing}
use Rattle.rpki_certs.specs.Validate.{Validated, AreAllowed}
use Rattle.rpki_certs.specs.Verify.{Verdict, IsInTime}
use Rattle.rpki_sigobj.specs.Object.{SignedData}
use Rattle.rpki_issued.specs.Tbs.{Unsigned, tbs_of, IsNotSigned}
use Rattle.rpki_issued.specs.Written.{made_certificate}
use Rattle.rpki_signing.specs.Written.{object_contents}

-- What a builder is told: what the certificate of the signer says, and when the object is signed.
-- Without an issuer it is the name of the issuer's key.
pub record Settings : Type 0 where
  pub serial_number : ℕ
  pub validity : Period
  pub issuer : Option Kept
  pub subject : Option Kept
  pub crl_uri : List ℕ
  pub ca_issuer : List ℕ
  pub signed_object : List ℕ
  pub as_numbers : Claim (List (Block ℕ))
  pub v4 : Claim (List (Block ℕ))
  pub v6 : Claim (List (Block ℕ))
  pub signing_time : Moment

-- the name of the issuer: one that was set, or that of its key, which is this project's own rule
-- (RFC 6487, section 4.4)
abbrev pub issuer_of : Option Kept → List ℕ → Kept
issuer_of None key = record { octets = key_name_octets (sha1 key); mode = Der }
issuer_of (Some name) key = name

-- what is claimed, and refused where it is too much
abbrev pub claims_of : Settings → Claims
claims_of b = record {
  policy = overclaim.Refuse;
  addresses = record { v4 = b.v4; v6 = b.v6 };
  as_numbers = b.as_numbers;
}

-- what the extensions of the signer's certificate say, with these keys of the issuer and of the
-- signer: it is that of an end entity (RFC 6487, section 4.8)
abbrev pub extensions_of : Settings → List ℕ → List ℕ → Extensions
extensions_of b issuer key = record {
  key = record {
    subject_key = sha1 key;
    authority_key = Some (sha1 issuer);
    basic_ca = None;
    usage = Ee;
    has_purposes = false;
  };
  locations = record {
    crl = Some b.crl_uri;
    ca_issuer = Some b.ca_issuer;
    subject = record {
      ca_repository = None;
      rpki_manifest = None;
      signed_object = Some b.signed_object;
      rpki_notify = None;
    };
  };
  claims = claims_of b;
}

-- the signer's certificate before it is signed
abbrev pub unsigned_of : Settings → List ℕ → List ℕ → Unsigned
unsigned_of b issuer key = record {
  serial_number = b.serial_number;
  issuer = issuer_of b.issuer issuer;
  validity = b.validity;
  subject = b.subject;
  key = key;
  extensions = extensions_of b issuer key;
}

-- What is signed has this type and this content; the certificate is the one that is made of what
-- the builder was told, for the key that signed, under this key of the issuer; the signer is named
-- by the identifier of that key, and its attributes have this digest and the builder's signing
-- time. That both signatures are such as the signer may answer, and the key one that is made to
-- sign once, is said beside it.
pub record IsBuilt (b : Settings) (issuer type content digest : List ℕ) (s : SignedData)
    : Type 0 where
  pub content_type : s.content_type ≡ type
  pub content_octets : s.content ≡ content
  pub cert : s.cert
      ≡ made_certificate (tbs_of (unsigned_of b issuer s.cert.tbs.key)) s.cert.signature
  pub sid : s.signer.sid ≡ sha1 s.cert.tbs.key
  pub attributes : AreMade type digest b.signing_time s.signer.attributes

-- What a built object needs to be valid under an issuer at a moment: cryptography says yes to the
-- two signatures, the issuer has the issuer's key, the moment lies in the validity, the signing
-- time is not after its end, a family is named, and the issuer has what is claimed.
pub record IsFit (verdict : Verdict) (b : Settings) (key : List ℕ) (s : SignedData)
    (issuer : Validated) (now : Moment) : Type 0 where
  pub cert_signed : verdict key s.cert.signed s.cert.signature ≡ true
  pub signed : verdict s.cert.tbs.key (message_of s.signer.attributes) s.signer.signature ≡ true
  pub issuer_key : issuer.cert.certificate.tbs.key ≡ key
  pub in_time : IsInTime b.validity now
  pub signing_time : stamp b.signing_time ≤ stamp b.validity.not_after
  pub named : ¬ NamesNothing (claims_of b)
  pub allowed : AreAllowed (claims_of b) issuer.sets

-- No name that was set was read in BER.
abbrev pub NamesInDer : Settings → Type 0
NamesInDer b =
    IfSome b.issuer (λ name. name.mode ≡ Der) × IfSome b.subject (λ name. name.mode ≡ Der)

-- by this key, which is made to sign once, the signer may answer a signature of attributes of this
-- type, digest and time
abbrev pub HasSigned : (List ℕ → List ℕ → List ℕ → Type 0) → (List ℕ → Type 0) → List ℕ → List ℕ
    → Moment → List ℕ → Type 0
HasSigned may once type digest time key =
    (x : SignedAttributes) × (signature : List ℕ) × AreMade type digest time x × once key
    × may key (message_of x) signature

-- the signer may answer both signatures: that of the attributes by the key in the certificate, and
-- that of the certificate by the issuer's key
abbrev pub AreSignatures : (List ℕ → List ℕ → List ℕ → Type 0) → List ℕ → SignedData → Type 0
AreSignatures may issuer s =
    may s.cert.tbs.key (message_of s.signer.attributes) s.signer.signature
    × may issuer s.cert.signed s.cert.signature

-- Some contents has 2^32 octets or more: of the certificate of a key that has signed once, without
-- a signature or with one that the signer may answer, or of an object that was built for such a
-- key, with both signatures such as the signer may answer.
abbrev pub IsTooLong : (List ℕ → List ℕ → List ℕ → Type 0) → (List ℕ → Type 0) → Settings
    → List ℕ → List ℕ → List ℕ → List ℕ → Type 0
IsTooLong may once b issuer type content digest =
    ((key : List ℕ) × HasSigned may once type digest b.signing_time key
    × IsNotSigned {E = Unit {0}} (may issuer) (unsigned_of b issuer key) error.TooLong)
    ⊎ ((s : SignedData) × IsBuilt b issuer type content digest s × once s.cert.tbs.key
    × AreSignatures may issuer s × ¬ (length (object_contents s) < 2 ^ 32))

-- Why an object is not built: a fault of the signer, attributes of more than 65535 octets, a name
-- in BER, or contents of 2^32 octets or more; or memory ran out.
abbrev pub IsNotBuilt : {E : Type 0} → (List ℕ → List ℕ → List ℕ → Type 0) → (List ℕ → Type 0)
    → Settings → List ℕ → List ℕ → List ℕ → List ℕ → SigningError E → Type 0
IsNotBuilt may once b issuer type content digest error.KeyNotFound = Unit {0}
IsNotBuilt may once b issuer type content digest error.IncompatibleKey = Unit {0}
IsNotBuilt may once b issuer type content digest (error.Signer e) = Unit {0}
IsNotBuilt may once b issuer type content digest error.AttrsTooLong =
    most_octets < length (concat (attributes_of type digest b.signing_time))
IsNotBuilt may once b issuer type content digest error.TooLong =
    IsTooLong may once b issuer type content digest
IsNotBuilt may once b issuer type content digest (error.Content fault) = ⊥
IsNotBuilt may once b issuer type content digest error.NotDer = ¬ NamesInDer b
IsNotBuilt may once b issuer type content digest error.Memory = Unit {0}
