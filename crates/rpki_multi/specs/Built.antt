-- Attestations that are built, and their signers (draft-michaelson-rpki-rta; RFC 5652).
use Rattle.std.specs.Prelude.{◌≡◌, ℕ, ◌<◌, ◌^◌, List, [], ◌∷◌, ◌++◌, length, Result, Ok, Err}
use Rattle.sha1.specs.Sha1.{sha1}
use Rattle.rpki_der.specs.declared.encode.EncodeError.{EncodeError}
use Rattle.rpki_der.specs.declared.encode.EncodeError.TheVariants.{NotDer, TooLong, Io, Memory}
use Rattle.rpki_der.specs.declared.error.DecodeError.{DecodeError}
use Rattle.rpki_der.specs.declared.error.DecodeError.TheVariants as unread
use Rattle.rpki_der.specs.declared.mode.Mode.TheVariants.{Der}
use Rattle.rpki_basics.specs.Moment.{Moment}
use Rattle.rpki_attributes.specs.Attrs.Made.{AreMade, message_of}
use Rattle.rpki_certs.specs.Cert.{KeptCertificate}
use Rattle.rpki_crls.specs.Crl.{KeptCrl}
use Rattle.rpki_sigobj.specs.SignerInfo.{KeptSigner}
use Rattle.rpki_tagged.specs.Attestation.{Attestation, attestation_contents, attestation_octets}
use Rattle.rpki_multi.specs.Attestation.{KeptWhole}
use Rattle.rpki_multi.specs.Multi.{AreIn, CarriedIn}
use Rattle.rpki_multi.specs.Signer.{id_rta}
use Rattle.rpki_multi.specs.Written.{multi_contents}

-- what is begun of what is to be attested: its octets in DER as the content, no certificate, no
-- revocation list, and no signer
abbrev pub begun_of : Attestation → KeptWhole
begun_of a = record {
  signed = record {
    mode = Der;
    content = attestation_octets a;
    certs = [];
    crls = [];
    signers = [];
  };
  content = a;
}

-- Why nothing is begun: the content has 2^32 octets or more; or memory ran out.
abbrev pub IsNotBegun : Attestation → EncodeError → Type 0
IsNotBegun a NotDer = ⊥
IsNotBegun a TooLong = ¬ (length (attestation_contents a) < 2 ^ 32)
IsNotBegun a Io = ⊥
IsNotBegun a Memory = Unit {0}

-- an attestation with these certificates in place of its own
abbrev pub with_certs : KeptWhole → List KeptCertificate → KeptWhole
with_certs k certs = record k { signed = record k.signed { certs = certs } }

-- an attestation with these revocation lists in place of its own
abbrev pub with_crls : KeptWhole → List KeptCrl → KeptWhole
with_crls k crls = record k { signed = record k.signed { crls = crls } }

-- an attestation with these signers in place of its own
abbrev pub with_signers : KeptWhole → List KeptSigner → KeptWhole
with_signers k signers = record k { signed = record k.signed { signers = signers } }

-- What a signer says by a key with these bits, of a content with this digest, at this time (RFC
-- 5652, section 5.3; RFC 6488, section 2.1.6): the identifier of the key (RFC 6487, section 4.8.2),
-- attributes that are made of the type of attestations, the digest and the time, in DER, and a
-- signature that may be given to their message.
pub record IsSignedBy (may : List ℕ → List ℕ → Type 0) (key digest : List ℕ) (time : Moment)
    (s : KeptSigner) : Type 0 where
  pub sid : s.signer.sid ≡ sha1 key
  pub attributes : AreMade id_rta digest time s.signer.attributes
  pub mode : s.mode ≡ Der
  pub signature : may (message_of s.signer.attributes) s.signer.signature

-- one signer comes last, of whom P holds, and nothing else changes
abbrev pub GainsSigner : (KeptSigner → Type 0) → KeptWhole → KeptWhole → Type 0
GainsSigner P old new =
    (s : KeptSigner) × P s × (new ≡ with_signers old (old.signed.signers ++ s ∷ []))

-- Why an attestation is not made: a certificate, a revocation list or a signer was read in BER; or
-- all are DER, and the object has contents of 2^32 octets or more.
abbrev pub IsNotMade : KeptWhole → EncodeError → Type 0
IsNotMade k NotDer = ¬ (CarriedIn Der k.signed)
IsNotMade k TooLong = CarriedIn Der k.signed × ¬ (length (multi_contents k.signed) < 2 ^ 32)
IsNotMade k Io = ⊥
IsNotMade k Memory = ⊥

-- What is read, in DER as every attestation is, is this one; or memory ran out.
abbrev pub IsReadAs : KeptWhole → Result KeptWhole DecodeError → Type 0
IsReadAs k (Ok r) = AreIn Der r.signed → r ≡ k
IsReadAs k (Err e) = e ≡ unread.Memory
