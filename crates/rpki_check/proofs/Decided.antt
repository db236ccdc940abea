-- What statuses mean.
use Rattle.std.proofs.Common.{◌≡◌, ◌∙◌, inl, inr, ℕ, List, Result, Ok, Err, refl, sym, ap}
use Rattle.std.proofs.Common.{arith, subst}
use Rattle.sha2.specs.Sha256.{sha256}
use Rattle.rpki_der.specs.declared.error.DecodeError.{DecodeError}
use Rattle.rpki_der.specs.declared.error.DecodeError.TheVariants as decoding
use Rattle.rpki_der.specs.declared.mode.Mode.{Mode}
use Rattle.rpki_resources.specs.declared.family.AddressFamily.TheVariants.{Ipv4, Ipv6}
use Rattle.rpki_faults.specs.declared.family.Family.TheVariants.{As, V4, V6}
use Rattle.rpki_faults.specs.declared.inspection.InspectionError.{InspectionError}
use Rattle.rpki_faults.specs.declared.inspection.InspectionError.TheVariants as profile
use Rattle.rpki_faults.specs.declared.validation.ValidationError.{ValidationError}
use Rattle.rpki_faults.specs.declared.validation.ValidationError.TheVariants as validation
use Rattle.rpki_faults.specs.declared.verification.VerificationError.{VerificationError}
use Rattle.rpki_faults.specs.declared.verification.VerificationError.TheVariants as faults
use Rattle.rpki_certs.specs.Cert.{KeptCertificate}
use Rattle.rpki_certs.specs.declared.issuer.IssuerError.{IssuerError}
use Rattle.rpki_certs.specs.declared.issuer.IssuerError.TheVariants as issuing
use Rattle.rpki_rsa.specs.Signature.{is_rsa_signature}
use Rattle.rpki_signed.proofs.Exactness.{headline}
use Rattle.rpki_signed.specs.Headline.{BeginsWithGood, IsMemory, SaysOne}
use Rattle.rpki_signed.specs.declared.check.CheckError.{CheckError}
use Rattle.rpki_signed.specs.declared.check.CheckError.TheVariants as checking
use Rattle.rpki_sigobj.specs.Object.{mode_of}
use Rattle.rpki_sigobj.specs.Signed.Kind.{ObjectKind}
use Rattle.rpki_sigobj.specs.Signed.{cert_in}
use Rattle.rpki_validation.specs.Object.{IsGoodOn}
use Rattle.rpki_validation.specs.declared.grounds.Grounds.{Grounds}
use Rattle.rpki_validation.proofs.Decided.{good-on}
use Rattle.rpki_check.specs.Grounds.{manner_in}
use Rattle.rpki_check.specs.Numbers.{check_number, inspection_number, issuer_number, refusal_number}
use Rattle.rpki_check.specs.Numbers.{no_memory, status_of, verification_number}
use Rattle.rpki_check.specs.Object.{IsDecided, IsFound, IsFoundIn, IsGoodFor, ListsSay}
use Rattle.rpki_check.proofs.Asking.{not-refused, one-grounds}
use Rattle.rpki_check.specs.declared.question.Question.{Question}
use Rattle.rpki_check.specs.declared.refusal.Refusal.{Refusal}
use Rattle.rpki_check.specs.declared.refusal.Refusal.TheVariants.{Check, Issuer, Memory}
use Rattle.rpki_check.specs.declared.refusal.Refusal.TheVariants.{NoList, NoMoment}

-- ---- no refusal has the number 0

profile-number : (fault : InspectionError) → inspection_number fault ≡ 0 → ⊥
profile-number profile.SidMismatch e = absurd cc
profile-number profile.KeyIdentifier e = absurd cc
profile-number profile.NoResources e = absurd cc
profile-number profile.MissingAki e = absurd cc
profile-number profile.MissingCrlUri e = absurd cc
profile-number profile.MissingCaIssuer e = absurd cc
profile-number profile.BasicCa e = absurd cc
profile-number profile.KeyUsage e = absurd cc
profile-number profile.Eku e = absurd cc
profile-number profile.MissingRepository e = absurd cc
profile-number profile.MissingManifest e = absurd cc
profile-number profile.SignedObject e = absurd cc
profile-number profile.MissingSignedObject e = absurd cc
profile-number profile.CaAccess e = absurd cc
profile-number profile.TaAki e = absurd cc
profile-number profile.TaCrlUri e = absurd cc
profile-number profile.TaCaIssuer e = absurd cc
profile-number profile.TaInherit e = absurd cc
profile-number (profile.NotCovered As) e = absurd cc
profile-number (profile.NotCovered V4) e = absurd cc
profile-number (profile.NotCovered V6) e = absurd cc

fault-number : (fault : VerificationError) → verification_number fault ≡ 0 → ⊥
fault-number faults.DigestMismatch e = absurd cc
fault-number faults.SigningTime e = absurd cc
fault-number faults.BadSignature e = absurd cc
fault-number faults.IssuerClaim e = absurd cc
fault-number faults.NotYetValid e = absurd cc
fault-number faults.Expired e = absurd cc
fault-number (faults.Overclaimed As) e = absurd cc
fault-number (faults.Overclaimed V4) e = absurd cc
fault-number (faults.Overclaimed V6) e = absurd cc
fault-number faults.NoAsResources e = absurd cc
fault-number faults.InheritedAsResources e = absurd cc
fault-number faults.EmptyAsResources e = absurd cc
fault-number faults.SeveralAsBlocks e = absurd cc
fault-number faults.AsRange e = absurd cc
fault-number faults.OtherCustomer e = absurd cc
fault-number faults.IpResources e = absurd cc
fault-number faults.CustomerNotHeld e = absurd cc
fault-number (faults.NoPrefixCovered Ipv4) e = absurd cc
fault-number (faults.NoPrefixCovered Ipv6) e = absurd cc
fault-number (faults.UncoveredPrefix uncovered) e = absurd cc
fault-number faults.ChecklistNotHeld e = absurd cc
fault-number faults.ManifestHash e = absurd cc
fault-number faults.UnknownKey e = absurd cc
fault-number faults.SignerDigest e = absurd cc
fault-number faults.MissingCertificate e = absurd cc
fault-number faults.MissingCrl e = absurd cc
fault-number faults.UnusedSubjectKeys e = absurd cc
fault-number faults.UnusedCrls e = absurd cc
fault-number faults.UnusedEeCertificates e = absurd cc
fault-number faults.InvalidCaCertificates e = absurd cc
fault-number faults.PathReturns e = absurd cc
fault-number faults.Revoked e = absurd cc
fault-number faults.UnusedCaCertificates e = absurd cc
fault-number faults.NotAnchored e = absurd cc
fault-number faults.AsNotFullyCovered e = absurd cc
fault-number faults.IpNotFullyCovered e = absurd cc
fault-number faults.Caller e = absurd cc

check-nonzero : (fault : CheckError) → check_number fault ≡ 0 → ⊥
check-nonzero (checking.Decode decoding.Memory) e = absurd cc
check-nonzero (checking.Decode decoding.Malformed) e = absurd cc
check-nonzero (checking.Decode (decoding.Content fault)) e = absurd cc
check-nonzero (checking.Validation validation.Memory) e = absurd cc
check-nonzero (checking.Validation (validation.Inspection fault)) e = profile-number fault e
check-nonzero (checking.Validation (validation.Verification fault)) e = fault-number fault e

issuer-nonzero : (fault : IssuerError) → issuer_number fault ≡ 0 → ⊥
issuer-nonzero (issuing.Decode decoding.Memory) e = absurd cc
issuer-nonzero (issuing.Decode decoding.Malformed) e = absurd cc
issuer-nonzero (issuing.Decode (decoding.Content fault)) e = absurd cc
issuer-nonzero (issuing.Validation validation.Memory) e = absurd cc
issuer-nonzero (issuing.Validation (validation.Inspection fault)) e = absurd (omega (arith, e))
issuer-nonzero (issuing.Validation (validation.Verification fault)) e = absurd (omega (arith, e))

pub nonzero : (refusal : Refusal) → refusal_number refusal ≡ 0 → ⊥
nonzero Memory e = absurd cc
nonzero NoMoment e = absurd cc
nonzero NoList e = absurd cc
nonzero (Issuer fault) e = issuer-nonzero fault e
nonzero (Check fault) e = check-nonzero fault e

-- ---- what lists say

pub memory-number : (fault : CheckError) → IsMemory fault → check_number fault ≡ no_memory
memory-number (checking.Decode fault) e =
    ap (λ (d : DecodeError). check_number (checking.Decode d)) e
memory-number (checking.Validation fault) e =
    ap (λ (v : ValidationError). check_number (checking.Validation v)) e

-- lists have one answer about a certificate
says-one : (g : Grounds) (k : KeptCertificate) → SaysOne (ListsSay g) k
says-one g k (Ok u) (Ok v) h i = refl
says-one g k (Ok u) (Err b) h (inl i) = absurd i.1
says-one g k (Ok u) (Err b) h (inr i) = absurd (i.0 h.0)
says-one g k (Err a) (Ok u) (inl h) i = absurd h.1
says-one g k (Err a) (Ok u) (inr h) i = absurd (h.0 i.0)
says-one g k (Err a) (Err b) (inl h) i = absurd h.1
says-one g k (Err a) (Err b) (inr h) (inl i) = absurd i.1
says-one g k (Err a) (Err b) (inr h) (inr i) = ap Err (h.1 ∙ sym i.1)

module _ {X : Type 0} (kind : ObjectKind X) (form : List ℕ → X → Type 0) (mode : Mode) (g : Grounds)
    (octets : List ℕ) where
  -- what is good where the lists are asked, as what no list revokes
  abbrev GoodByLists : Type 0
  GoodByLists = BeginsWithGood kind form mode sha256 is_rsa_signature g.issuer g.moment (ListsSay g)
      octets

  unlisted : GoodByLists → IsGoodOn kind form mode g octets
  unlisted b = record {
    object = b.object;
    rest = b.rest;
    front = b.front;
    certificate = b.certificate;
    good = b.good;
    said = b.said.0;
  }

  listed : IsGoodOn kind form mode g octets → GoodByLists
  listed b = record {
    object = b.object;
    rest = b.rest;
    front = b.front;
    certificate = b.certificate;
    good = b.good;
    said = (b.said, tt);
  }

-- ---- a yes and a no

module _ {X : Type 0} (kind : ObjectKind X) (form : List ℕ → X → Type 0) (q : Question)
    (octets : List ℕ) where
  yes : (found : Result X Refusal) → IsFound kind form q octets found → status_of found ≡ 0
      → IsGoodFor kind form q octets
  yes (Ok x) (inl h) e = absurd (let same : Ok x ≡ Err h.0 = h.2 in cc)
  yes (Ok x) (inr f) e = record {
    grounds = f.grounds;
    are = f.are;
    good =
        unlisted kind form (mode_of (manner_in q).strict) f.grounds octets
        ((headline kind form (ListsSay f.grounds)).yes (mode_of (manner_in q).strict) sha256
        is_rsa_signature f.grounds.issuer f.grounds.moment octets (f.found.0, x) f.found.1.exact);
  }
  yes (Err refusal) h e = absurd (nonzero refusal e)

  no-on : (refusal : Refusal) → IsFoundIn kind form q octets (Err refusal)
      → ¬ (refusal_number refusal ≡ no_memory) → ¬ IsGoodFor kind form q octets
  no-on Memory f m g = m refl
  no-on NoMoment f m g = f.found
  no-on NoList f m g = f.found
  no-on (Issuer fault) f m g = f.found
  no-on (Check fault) f m g =
      let good = listed kind form (mode_of (manner_in q).strict) f.grounds octets
      (good-on kind form (mode_of (manner_in q).strict) octets g.grounds f.grounds
      (one-grounds q g.grounds f.grounds g.are f.are) g.good) in
      (headline kind form (ListsSay f.grounds)).no (mode_of (manner_in q).strict) sha256
      is_rsa_signature f.grounds.issuer f.grounds.moment octets fault f.found.exact
      (λ memory. m (memory-number fault memory)) good
      (says-one f.grounds (cert_in (mode_of (manner_in q).strict) good.object))

  no : (found : Result X Refusal) → IsFound kind form q octets found → ¬ (status_of found ≡ 0)
      → ¬ (status_of found ≡ no_memory) → ¬ IsGoodFor kind form q octets
  no (Ok x) h z m g = z refl
  no (Err refusal) (inl h) z m g =
      let same : Err refusal ≡ Err h.0 = h.2 in
      let is : refusal ≡ h.0 = cc in
      not-refused q h.0 h.1
      (subst (λ (r : Refusal). ¬ (refusal_number r ≡ no_memory)) is m) g.grounds g.are
  no (Err refusal) (inr f) z m g = no-on refusal f m g

-- statuses decide
pub decided : {X : Type 0} (kind : ObjectKind X) (form : List ℕ → X → Type 0) → IsDecided kind form
decided kind form = record { yes = yes kind form; no = no kind form }
