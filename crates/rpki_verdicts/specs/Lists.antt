-- What is answered where the octets of files make a list.
use Rattle.std.specs.Prelude.{◌≡◌, ℕ, List, [], ◌∷◌, ◌++◌, Result, Ok, Err, String, string_bytes}
use Rattle.std.specs.declared.alloc.AllocError.{AllocError}
use Rattle.std.specs.declared.alloc.Global.{Global}
use Rattle.rpki_der.specs.declared.error.DecodeError.{DecodeError}
use Rattle.rpki_der.specs.declared.error.DecodeError.TheVariants.{Memory}
use Rattle.rpki_der.specs.declared.mode.Mode.{Mode}
use Rattle.rpki_der.specs.declared.mode.Mode.TheVariants.{Der}
use Rattle.rpki_der.specs.Form.Decodes.{IsOnlyFront}
use Rattle.rpki_der.specs.Grammar.{HasNoFront}
use Rattle.rpki_der.specs.Read.Reads.{Refuses}
use Rattle.rpki_der.specs.Text.Error.{error_text}
use Rattle.rpki_certs.specs.Cert.{Certificate, KeptCertificate, CertForm}
use Rattle.rpki_certs.specs.Verify.{Verdict}
use Rattle.rpki_sigobj.specs.Object.{SignedObject, SignedForm}
use Rattle.rpki_verdicts.specs.Listing.{good_line, listing}
use Rattle.rpki_verdicts.specs.Questions.{cert_question, chain_questions, signer_question}
use Rattle.rpki_verdicts.specs.Questions.{check_questions, last_of}
use Rattle.rpki_verdicts.specs.declared.list.ListingError.{ListingError}
use Rattle.rpki_verdicts.specs.declared.list.ListingError.TheVariants as fault

-- The octets begin with this in the form, and with nothing else.
abbrev pub BeginWith : {X : Type 0} → (List ℕ → X → Type 0) → List ℕ → X → Type 0
BeginWith form octets x = (rest : List ℕ) × IsOnlyFront form octets x rest

-- The octets of each file begin with a certificate, in DER: with these, in their order.
abbrev pub AreCerts : List (List ℕ) → List Certificate → Type 0
AreCerts [] [] = Unit {0}
AreCerts [] (cert ∷ certs) = ⊥
AreCerts (file ∷ files) [] = ⊥
AreCerts (file ∷ files) (cert ∷ certs) = BeginWith (CertForm Der) file cert × AreCerts files certs

-- not each of the files begins with a certificate
abbrev pub AreNotAllCerts : List (List ℕ) → Type 0
AreNotAllCerts files = (certs : List Certificate) → AreCerts files certs → ⊥

-- The text lists the good ones of the signatures that a check asks about: the files begin with a
-- signed object, in this mode, with the certificate of a trust anchor, and with those of CAs.
pub record IsListingOf (mode : Mode) (verdict : Verdict) (object anchor : List ℕ)
    (chain : List (List ℕ)) (text : List ℕ) : Type 0 where
  pub first : Certificate
  pub others : List Certificate
  pub signed : SignedObject
  pub certs : AreCerts (anchor ∷ chain) (first ∷ others)
  pub front : BeginWith (SignedForm mode) object signed
  pub whole : text ≡ listing verdict (check_questions first others signed.signed)

-- What is answered: the text, or that not all files of certificates begin with one, or else that
-- the file of the object begins with no signed object, unless memory runs out.
abbrev pub Lists : Mode → Verdict → List ℕ → List ℕ → List (List ℕ)
    → Result (String Global) ListingError → Type 0
Lists mode verdict object anchor chain (Ok text) =
    IsListingOf mode verdict object anchor chain (string_bytes text)
Lists mode verdict object anchor chain (Err (fault.Certificate e)) =
    Refuses e (AreNotAllCerts (anchor ∷ chain))
Lists mode verdict object anchor chain (Err (fault.Object e)) =
    ((certs : List Certificate) × AreCerts (anchor ∷ chain) certs)
    × Refuses e (HasNoFront (SignedForm mode) object)

-- the text of the fault in it
abbrev pub listing_error_text : ListingError → List ℕ
listing_error_text (fault.Certificate e) = error_text e
listing_error_text (fault.Object e) = error_text e

-- ---- step by step

-- a certificate is kept, unless memory ran out
abbrev pub IsKept : KeptCertificate → Result (Unit {0}) AllocError
    → Result KeptCertificate DecodeError → Type 0
IsKept cert (Ok u) result = result ≡ Ok cert
IsKept cert (Err e) result = result ≡ Err Memory

-- A text grows by the line of the certificate that a file begins with, if this key signed it.
abbrev pub PushesCert : Verdict → (Certificate → List ℕ) → List ℕ → List ℕ
    → Result KeptCertificate DecodeError → List ℕ → Type 0
PushesCert verdict key_of file old (Ok cert) new =
    BeginWith (CertForm Der) file cert.certificate
    × (new ≡ old ++ good_line verdict (cert_question (key_of cert.certificate) cert.certificate))
PushesCert verdict key_of file old (Err e) new = Refuses e (HasNoFront (CertForm Der) file)

-- the lines of certificates, each by the key of the one before
abbrev pub chain_lines : Verdict → List ℕ → List Certificate → List ℕ
chain_lines verdict key certs = listing verdict (chain_questions key certs)

-- A text grows by the lines of a chain after this certificate, and the last one is given. It is
-- said for whatever certificates follow (`tail`): their lines by the key of the last one are what
-- is missing from the lines of all.
abbrev pub PushesChain : Verdict → Certificate → List (List ℕ) → List ℕ
    → Result KeptCertificate DecodeError → List ℕ → Type 0
PushesChain verdict first chain old (Ok last) new =
    (certs : List Certificate) × AreCerts chain certs
    × ((tail : List Certificate) → old ++ chain_lines verdict first.tbs.key (certs ++ tail)
    ≡ new ++ chain_lines verdict last.certificate.tbs.key tail)
    × (last_of first certs ≡ last.certificate)
PushesChain verdict first chain old (Err e) new = Refuses e (AreNotAllCerts chain)

-- Lines are put to a list for the certificates of a chain, with that of a trust anchor in front.
abbrev pub PushesCerts : Verdict → List ℕ → List (List ℕ) → List ℕ
    → Result KeptCertificate DecodeError → List ℕ → Type 0
PushesCerts verdict anchor chain old (Ok last) new =
    (first : Certificate) × (others : List Certificate)
    × AreCerts (anchor ∷ chain) (first ∷ others)
    × ((tail : List Certificate) → old ++ chain_lines verdict first.tbs.key
    (first ∷ (others ++ tail)) ≡ new ++ chain_lines verdict last.certificate.tbs.key tail)
    × (last_of first others ≡ last.certificate)
PushesCerts verdict anchor chain old (Err e) new = Refuses e (AreNotAllCerts (anchor ∷ chain))

-- A text grows by the lines of an object under the issuer with this key.
abbrev pub PushesObject : Mode → Verdict → List ℕ → List ℕ → List ℕ
    → Result (Unit {0}) DecodeError → List ℕ → Type 0
PushesObject mode verdict key octets old (Ok u) new =
    (o : SignedObject) × BeginWith (SignedForm mode) octets o
    × (new ≡ old ++ (good_line verdict (cert_question key o.signed.cert)
    ++ good_line verdict (signer_question o.signed)))
PushesObject mode verdict key octets old (Err e) new =
    Refuses e (HasNoFront (SignedForm mode) octets)
