-- Revocation lists. The sections are those of RFC 5280, where no other RFC is named.
use Rattle.std.specs.Prelude.{◌≡◌, ℕ, List, [], ◌∷◌, Some, Bool, true}
use Rattle.rpki_der.specs.declared.mode.Mode.{Mode}
use Rattle.rpki_der.specs.Grammar.{Integer, OctetsInBits}
use Rattle.rpki_der.specs.Form.Made.{WithOctets, made, with_octets}
use Rattle.rpki_der.specs.Form.Parts.{Sequence, Explicit, sequence_at, context_at}
use Rattle.rpki_der.specs.Read.Parse.{Parser, ◌>>=◌, primitive, this, octets_in_bits_at}
use Rattle.rpki_der.specs.Tags.{INTEGER}
use Rattle.rpki_basics.specs.Algorithm.{CertAlgorithmForm, cert_algorithm_at}
use Rattle.rpki_basics.specs.Name.{NameForm, name_at}
use Rattle.rpki_basics.specs.Moment.{Moment}
use Rattle.rpki_basics.specs.Time.Form.{TimeForm}
use Rattle.rpki_basics.specs.Time.Read.{time_at}
use Rattle.rpki_faults.specs.Checks.{Check, ◌unless◌}
use Rattle.rpki_faults.specs.declared.verification.VerificationError.{VerificationError}
use Rattle.rpki_faults.specs.declared.verification.VerificationError.TheVariants.{BadSignature}
use Rattle.rpki_crls.specs.declared.extensions.CrlExtensions.{CrlExtensions}
use Rattle.rpki_crls.specs.Entry.{RevokedForm, revoked_at}
use Rattle.rpki_crls.specs.Extensions.{CrlExtensionsForm, crl_extensions_at}

-- What is signed of a revocation list, its TBSCertList: the issuer's name as its octets, and the
-- serial numbers of the certificates that are revoked, in their order.
pub record Tbs : Type 0 where
  pub issuer : List ℕ
  pub this_update : Moment
  pub next_update : Moment
  pub revoked : List ℕ
  pub extensions : CrlExtensions

-- A revocation list: what is signed of it and its octets, its signature, and all of its octets.
pub record RevocationList : Type 0 where
  pub tbs : Tbs
  pub signed : List ℕ
  pub signature : List ℕ
  pub octets : List ℕ

-- the number of the version v2 (5.1.2.1)
abbrev pub v2 : ℕ
v2 = 1

-- TBSCertList: SEQUENCE { version, signature, issuer, thisUpdate, nextUpdate, revokedCertificates
-- OPTIONAL, crlExtensions [0] } (5.1). The version is v2, and the extensions have to be there (RFC
-- 6487, section 5); nextUpdate has to be there too (5.1.2.5). That the next update may be before
-- this one is this project's own rule.
abbrev pub TbsForm : Mode → List ℕ → Tbs → Type 0
TbsForm mode octets t = Sequence mode (
    (λ o. Integer mode o v2)
    ∷ (λ o. CertAlgorithmForm mode o tt)
    ∷ (λ o. NameForm mode o t.issuer)
    ∷ (λ o. TimeForm mode o t.this_update)
    ∷ (λ o. TimeForm mode o t.next_update)
    ∷ (λ o. RevokedForm mode o t.revoked)
    ∷ (λ o. Explicit 0 mode (λ e. CrlExtensionsForm mode e t.extensions) o)
    ∷ []) octets

-- CertificateList: SEQUENCE { tbsCertList, signatureAlgorithm, signatureValue BIT STRING } (5.1).
-- What is signed are the octets of tbsCertList, as they stand there; the octets of the list are all
-- octets of the CertificateList. That of the two identifiers of the algorithm one may have a NULL
-- and the other none, where 5.1.1.2 has them the same, is this project's own rule.
abbrev pub CrlForm : Mode → List ℕ → RevocationList → Type 0
CrlForm mode octets c = (c.octets ≡ octets) × Sequence mode (
    (λ o. WithOctets (TbsForm mode) o c.tbs c.signed)
    ∷ (λ o. CertAlgorithmForm mode o tt)
    ∷ (λ o. OctetsInBits mode o c.signature)
    ∷ []) octets

-- what is signed, and the mode that the issuer's name was read in
pub record KeptTbs : Type 0 where
  pub tbs : Tbs
  pub name_mode : Mode

-- a revocation list, and the mode that it was read in
pub record KeptCrl : Type 0 where
  pub list : RevocationList
  pub mode : Mode

-- The octets that are kept are those of the list, in their mode.
abbrev pub IsKept : KeptCrl → Type 0
IsKept k = CrlForm k.mode k.list.octets k.list

-- The key with these bits signed the list, by this verdict on key, message and signature: the
-- octets of what is signed, as they stand in it (6.3.3).
abbrev pub IsSignedBy : (List ℕ → List ℕ → List ℕ → Bool) → List ℕ → RevocationList → Type 0
IsSignedBy verdict key list = verdict key list.signed list.signature ≡ true

-- The key with these bits has to have signed the list.
abbrev pub signature_checks : (List ℕ → List ℕ → List ℕ → Bool) → List ℕ → RevocationList
    → List (Check VerificationError)
signature_checks verdict key list = (BadSignature unless IsSignedBy verdict key list) ∷ []

-- ---- as functions

-- the fields that are signed
unfoldable pub tbs_fields_at : Parser Tbs
tbs_fields_at mode bytes = do
  version ← primitive INTEGER (this v2) mode bytes
  algorithm ← cert_algorithm_at mode version.1
  issuer ← name_at mode algorithm.1
  this_update ← time_at mode issuer.1
  next_update ← time_at mode this_update.1
  revoked ← revoked_at mode next_update.1
  extensions ← context_at 0 crl_extensions_at mode revoked.1
  Some (
    record {
      issuer = issuer.0;
      this_update = this_update.0;
      next_update = next_update.0;
      revoked = revoked.0;
      extensions = extensions.0;
    },
    extensions.1,
  )

-- what is signed
abbrev pub tbs_at : Parser Tbs
tbs_at = sequence_at tbs_fields_at

-- what stands in a revocation list
pub record Contents : Type 0 where
  pub tbs : Tbs
  pub signed : List ℕ
  pub signature : List ℕ

-- what stands in a revocation list, and the mode that the issuer's name was read in
pub record KeptContents : Type 0 where
  pub contents : Contents
  pub name_mode : Mode

-- what stands in the SEQUENCE
unfoldable pub contents_at : Parser Contents
contents_at mode bytes = do
  tbs ← with_octets tbs_at mode bytes
  algorithm ← cert_algorithm_at mode tbs.1
  signature ← octets_in_bits_at mode algorithm.1
  Some (
    record { tbs = tbs.0.0; signed = tbs.0.1; signature = signature.0 },
    signature.1,
  )

-- the revocation list of contents and octets
abbrev pub list_of : Contents × List ℕ → RevocationList
list_of c = record {
  tbs = c.0.tbs;
  signed = c.0.signed;
  signature = c.0.signature;
  octets = c.1;
}

-- a revocation list
abbrev pub crl_at : Parser RevocationList
crl_at = made list_of (with_octets (sequence_at contents_at))
