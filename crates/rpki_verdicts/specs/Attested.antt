-- Which signatures a check of an attestation may ask about, and what is answered where the octets
-- of files make the list of the good ones (draft-michaelson-rpki-rta, section 5).
use Rattle.std.specs.Prelude.{◌≡◌, ℕ, List, [], ◌∷◌, ◌++◌, Bool, Option, None, Some, map, cond}
use Rattle.std.specs.Prelude.{Result, Ok, Err, String, Vec, string_bytes}
use Rattle.std.specs.Str.{bytes_eq}
use Rattle.std.specs.List.{flat_map}
use Rattle.std.specs.Borrow.{Bor}
use Rattle.std.specs.declared.alloc.Global.{Global}
use Rattle.rpki_der.specs.declared.error.DecodeError.{DecodeError}
use Rattle.rpki_der.specs.declared.mode.Mode.TheVariants.{Der}
use Rattle.rpki_der.specs.Grammar.{HasNoFront}
use Rattle.rpki_der.specs.Read.Reads.{Refuses}
use Rattle.rpki_attributes.specs.Attrs.Made.{message_of}
use Rattle.rpki_certs.specs.Cert.{Certificate, KeptCertificate}
use Rattle.rpki_certs.specs.Verify.{Verdict}
use Rattle.rpki_crls.specs.Crl.{RevocationList}
use Rattle.rpki_multi.specs.Attestation.{Whole, RtaForm}
use Rattle.rpki_multi.specs.Multi.{MultiSigned}
use Rattle.rpki_sigobj.specs.SignerInfo.{SignerInfo}
use Rattle.rpki_verdicts.specs.Listing.{listing}
use Rattle.rpki_verdicts.specs.Lists.{BeginWith, AreCerts, AreNotAllCerts}
use Rattle.rpki_verdicts.specs.Questions.{Question, cert_question, chain_questions, last_of}
use Rattle.rpki_verdicts.specs.declared.list.ListingError.{ListingError}
use Rattle.rpki_verdicts.specs.declared.list.ListingError.TheVariants as fault

-- ---- what is carried

-- whether the key of a certificate has this identifier (RFC 6487, section 4.8.2)
abbrev pub has_id : List ℕ → Certificate → Bool
has_id id d = bytes_eq d.tbs.extensions.key.subject_key id

-- whether the key of this certificate signed the message so, asked where it has this identifier
abbrev pub named_question : List ℕ → List ℕ → List ℕ → Certificate → List Question
named_question id message signature d =
    cond (has_id id d)
    (record { key = d.tbs.key; message = message; signature = signature } ∷ []) []

-- what is asked of a signature, of each of these certificates that is named, in their order
abbrev pub named_questions : List Certificate → List ℕ → List ℕ → List ℕ → List Question
named_questions certs id message signature = flat_map (named_question id message signature) certs

-- Whose key signed a certificate, by the identifier of its issuer's key: its own where it states
-- none, and else one of those that have this identifier.
abbrev pub issuer_questions : List Certificate → Certificate → Option (List ℕ) → List Question
issuer_questions certs c None = cert_question c.tbs.key c ∷ []
issuer_questions certs c (Some id) = named_questions certs id c.signed c.signature

-- whether one of these keys signed the certificate (RFC 6487, section 4.8.3)
abbrev pub carried_questions : List Certificate → Certificate → List Question
carried_questions certs c = issuer_questions certs c c.tbs.extensions.key.authority_key

-- whether one of them signed the revocation list (RFC 6487, section 5)
abbrev pub list_questions : List Certificate → RevocationList → List Question
list_questions certs l = named_questions certs l.tbs.extensions.authority_key l.signed l.signature

-- whether one of them signed the message of the attributes of a signer (RFC 5652, section 5.4)
abbrev pub info_questions : List Certificate → SignerInfo → List Question
info_questions certs s = named_questions certs s.sid (message_of s.attributes) s.signature

-- Whether what is carried is signed, where these are the certificates of the CAs that are supplied:
-- each carried certificate by the key of a carried one or of a supplied one, each revocation list
-- and each signer by the key of a carried one.
abbrev pub object_questions : List Certificate → MultiSigned → List Question
object_questions supplied m =
    flat_map (carried_questions (m.certs ++ supplied)) m.certs
    ++ (flat_map (list_questions m.certs) m.crls ++ flat_map (info_questions m.certs) m.signers)

-- ---- what is supplied

-- Whether the certificates of a chain are signed: the first by its own key, and each other one by
-- the key of the one before.
abbrev pub supplied_questions : List Certificate → List Question
supplied_questions [] = []
supplied_questions (first ∷ others) = chain_questions first.tbs.key (first ∷ others)

-- what a chain supplies: its last certificate
abbrev pub supplied_by : List Certificate → List Certificate
supplied_by [] = []
supplied_by (first ∷ others) = last_of first others ∷ []

-- The signatures that a check of an attestation may ask about, at any moment, where these are the
-- certificates of the chains that are supplied, in the order of the lines of a list: those of each
-- chain, and then those of the certificates, of the revocation lists and of the signers that are
-- carried. A check that ends early, or for which one of several keys is enough, asks about fewer.
abbrev pub rta_questions : List (List Certificate) → MultiSigned → List Question
rta_questions chains m =
    flat_map supplied_questions chains ++ object_questions (flat_map supplied_by chains) m

-- ---- the list

-- the octets of the files of each chain
abbrev pub octets_of_chains : List (Bor (List (List ℕ))) → List (List (List ℕ))
octets_of_chains chains = map (λ chain. chain.now) chains

-- The octets of each file of each chain begin with a certificate, in DER: with these.
abbrev pub AreChains : List (List (List ℕ)) → List (List Certificate) → Type 0
AreChains [] [] = Unit {0}
AreChains [] (certs ∷ more) = ⊥
AreChains (files ∷ chains) [] = ⊥
AreChains (files ∷ chains) (certs ∷ more) = AreCerts files certs × AreChains chains more

-- not each file of each chain begins with a certificate
abbrev pub AreNotAllChains : List (List (List ℕ)) → Type 0
AreNotAllChains chains = (certs : List (List Certificate)) → AreChains chains certs → ⊥

-- The text lists the good ones of the signatures that a check of an attestation may ask about: the
-- files begin with one, in DER, and with the certificates of the chains that are supplied.
pub record IsRtaListingOf (verdict : Verdict) (object : List ℕ) (chains : List (List (List ℕ)))
    (text : List ℕ) : Type 0 where
  pub supplied : List (List Certificate)
  pub rta : Whole
  pub certs : AreChains chains supplied
  pub front : BeginWith (RtaForm Der) object rta
  pub whole : text ≡ listing verdict (rta_questions supplied rta.signed)

-- What is answered: the text, or that not all files of certificates begin with one, or else that
-- the file of the object begins with no attestation, unless memory runs out.
abbrev pub ListsRta : Verdict → List ℕ → List (List (List ℕ)) → Result (String Global) ListingError
    → Type 0
ListsRta verdict object chains (Ok text) =
    IsRtaListingOf verdict object chains (string_bytes text)
ListsRta verdict object chains (Err (fault.Certificate e)) = Refuses e (AreNotAllChains chains)
ListsRta verdict object chains (Err (fault.Object e)) =
    ((certs : List (List Certificate)) × AreChains chains certs)
    × Refuses e (HasNoFront (RtaForm Der) object)

-- ---- step by step

-- certificates, without the modes that they were read in
abbrev pub certificates : List KeptCertificate → List Certificate
certificates certs = map (λ c. c.certificate) certs

-- A text grows by the lines of a chain, and what it supplies is added to what was supplied.
abbrev pub PushesSupplied : Verdict → List (List ℕ) → List ℕ → List KeptCertificate
    → Result (Unit {0}) DecodeError → List ℕ → List KeptCertificate → Type 0
PushesSupplied verdict files old had (Ok u) new has =
    (certs : List Certificate) × AreCerts files certs
    × (certificates has ≡ certificates had ++ supplied_by certs)
    × (new ≡ old ++ listing verdict (supplied_questions certs))
PushesSupplied verdict files old had (Err e) new has = Refuses e (AreNotAllCerts files)

-- A text grows by the lines of chains, and what they supply is given.
abbrev pub PushesChains : Verdict → List (List (List ℕ)) → List ℕ
    → Result (Vec KeptCertificate Global) DecodeError → List ℕ → Type 0
PushesChains verdict chains old (Ok supplied) new =
    (certs : List (List Certificate)) × AreChains chains certs
    × (certificates supplied.items ≡ flat_map supplied_by certs)
    × (new ≡ old ++ listing verdict (flat_map supplied_questions certs))
PushesChains verdict chains old (Err e) new = Refuses e (AreNotAllChains chains)

-- A text grows by the lines of an attestation under these supplied certificates.
abbrev pub PushesRta : Verdict → List Certificate → List ℕ → List ℕ
    → Result (Unit {0}) DecodeError → List ℕ → Type 0
PushesRta verdict supplied octets old (Ok u) new =
    (r : Whole) × BeginWith (RtaForm Der) octets r
    × (new ≡ old ++ listing verdict (object_questions supplied r.signed))
PushesRta verdict supplied octets old (Err e) new = Refuses e (HasNoFront (RtaForm Der) octets)
