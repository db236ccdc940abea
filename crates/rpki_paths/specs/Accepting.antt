-- What the checks of a whole attestation answer (draft-michaelson-rpki-rta).
use Rattle.std.specs.Prelude.{◌≡◌, ℕ, ◌+◌, ◌*◌, List, [], Bool, length, map}
use Rattle.rpki_paths.specs.declared.acceptance.AcceptFault.{AcceptFault}
use Rattle.rpki_paths.specs.declared.acceptance.AcceptFault.TheVariants as why
use Rattle.rpki_paths.specs.declared.carried.Attestation.{Attestation}
use Rattle.rpki_paths.specs.declared.signing.SignFault.{SignFault}
use Rattle.rpki_paths.specs.declared.signing.SignFault.TheVariants as signs
use Rattle.rpki_paths.specs.declared.sorting.SortFault.{SortFault}
use Rattle.rpki_paths.specs.declared.sorting.SortFault.TheVariants as sorts
use Rattle.rpki_paths.specs.declared.walker.Path.{Path}
use Rattle.rpki_paths.specs.declared.walks.WalksFault.TheVariants.{Memory as WalksMemory}
use Rattle.rpki_paths.specs.Cert.{Cert}
use Rattle.rpki_paths.specs.Grant.{authorities, AreValid}
use Rattle.rpki_paths.specs.Kept.{AreRefused, AreWalked}
use Rattle.rpki_paths.specs.Pairing.{Carried, Crl, Signer, IsMatching, IsVerifiedBy, HasCrl}
use Rattle.rpki_paths.specs.Signing.{AreSigned, StopsAtSigner}
use Rattle.rpki_paths.specs.Sorting.{cas_of, ees_of, HavePassed, StopsAtCert}
use Rattle.rpki_paths.specs.Taking.{PairsOff}

-- What an attestation carries: its subject keys; its certificates by their kind, each in carried
-- order; its signers and its CRLs. `seen`, `signer` and `crl` say what its handles stand for, and
-- `of_ca` which certificates are those of CAs.
abbrev pub carried_of : {X S R : Type 0} → (X → Cert) → (X → Bool) → (S → Signer) → (R → Crl) →
    Attestation X S R → Carried
carried_of seen of_ca signer crl a = record {
  subject_keys = a.subject_keys.now;
  signers = map signer a.signers.now;
  ees = map seen (ees_of of_ca a.certs.now);
  cas = map seen (cas_of of_ca a.certs.now);
  crls = map crl a.crls.now;
}

-- All is paired, and every signer has the digest of the content (`IsMatching`): in carried order
-- each CA takes the first CRL that fits it of those that are left, and each signer the first
-- end-entity certificate.
pub record IsFirstMatching (a : Carried) (ees : List Cert) (crls : List Crl) : Type 0 where
  pub matching : IsMatching a ees crls
  pub of_cas : PairsOff HasCrl a.cas crls a.crls []
  pub of_signers : PairsOff IsVerifiedBy a.signers ees a.ees []

-- Every certificate is valid, all is paired, each taking the first that fits, every signer has the
-- digest of the content, and this is kept of the paths of the certificates of the signers, on which
-- every carried CA stands.
pub record AreAccepted {C : Type 0} (cert : C → Cert) (a : Carried) (kept : List (Path C)) :
    Type 0 where
  pub ees : List Cert
  pub crls : List Crl
  pub valid : AreValid a
  pub paired : IsFirstMatching a ees crls
  pub walked : AreWalked cert (authorities a crls) ees kept

-- The certificates passed, and then the signers took what they need. In order, `crls` are what the
-- CAs took, and `ees` what the signers took; the rest is left over.
pub record HaveTaken {X : Type 0} (good : X → Type 0) (seen : X → Cert) (of_ca : X → Bool)
    (certs : List X) (a : Carried) (ees : List Cert) (crls : List Crl) (left_keys : List (List ℕ))
    (left_crls : List Crl) (left_ees : List Cert) : Type 0 where
  pub passed : HavePassed good seen of_ca certs a.crls crls left_crls
  pub signed : AreSigned a.signers a.subject_keys a.ees ees left_keys left_ees

-- The certificates passed, and then a signer does not take what it needs.
abbrev pub StopsSigning : {X : Type 0} → (X → Type 0) → (X → Cert) → (X → Bool) → List X →
    Carried → SignFault → Type 0
StopsSigning good seen of_ca certs a fault =
    ((taken : List Crl) × (left : List Crl) × HavePassed good seen of_ca certs a.crls taken left)
    × StopsAtSigner a.signers a.subject_keys a.ees fault

-- The certificates passed, then the signers took what they need, and P holds of the subject keys,
-- the CRLs and the end-entity certificates that are left over.
abbrev pub LeavesOver : {X : Type 0} → (X → Type 0) → (X → Cert) → (X → Bool) → List X → Carried →
    (List (List ℕ) → List Crl → List Cert → Type 0) → Type 0
LeavesOver good seen of_ca certs a P =
    (ees : List Cert) × (crls : List Crl) × (left_keys : List (List ℕ)) × (left_crls : List Crl)
    × (left_ees : List Cert)
    × HaveTaken good seen of_ca certs a ees crls left_keys left_crls left_ees
    × P left_keys left_crls left_ees

-- Why an attestation is not accepted. In this order: a certificate is not good, or a CA finds no
-- CRL; a signer finds no subject key, has not the digest, or finds no certificate; subject keys are
-- left over; CRLs are; end-entity certificates are; the walks from the certificates of the signers
-- are refused. The first that fails is answered: all before it passed. Where memory is wanting,
-- none of them need have failed.
abbrev pub WhyNot : {X F : Type 0} → (X → Type 0) → (X → F → Type 0) → (X → Cert) → (X → Bool) →
    List X → Carried → AcceptFault F → Type 0
WhyNot good because seen of_ca certs a (why.NotGood fault) =
    StopsAtCert good because seen of_ca certs a.crls (sorts.NotGood fault)
WhyNot good because seen of_ca certs a why.NoCrl =
    StopsAtCert good because seen of_ca certs a.crls sorts.NoCrl
WhyNot good because seen of_ca certs a why.NoKey = StopsSigning good seen of_ca certs a signs.NoKey
WhyNot good because seen of_ca certs a why.Digest =
    StopsSigning good seen of_ca certs a signs.Digest
WhyNot good because seen of_ca certs a why.NoCert =
    StopsSigning good seen of_ca certs a signs.NoCert
WhyNot good because seen of_ca certs a why.KeysLeft =
    LeavesOver good seen of_ca certs a (λ keys crls ees. ¬ (keys ≡ []))
WhyNot good because seen of_ca certs a why.CrlsLeft =
    LeavesOver good seen of_ca certs a (λ keys crls ees. (keys ≡ []) × ¬ (crls ≡ []))
WhyNot good because seen of_ca certs a why.CertsLeft =
    LeavesOver good seen of_ca certs a
    (λ keys crls ees. (keys ≡ []) × (crls ≡ []) × ¬ (ees ≡ []))
WhyNot good because seen of_ca certs a (why.Walks fault) =
    (ees : List Cert) × (crls : List Crl)
    × HaveTaken good seen of_ca certs a ees crls [] [] []
    × AreRefused fault (authorities a crls) ees
WhyNot good because seen of_ca certs a why.Memory = Unit {0}

-- Memory was wanting.
abbrev pub WantsMemory : {F : Type 0} → AcceptFault F → Type 0
WantsMemory (why.NotGood fault) = ⊥
WantsMemory why.NoCrl = ⊥
WantsMemory why.NoKey = ⊥
WantsMemory why.Digest = ⊥
WantsMemory why.NoCert = ⊥
WantsMemory why.KeysLeft = ⊥
WantsMemory why.CrlsLeft = ⊥
WantsMemory why.CertsLeft = ⊥
WantsMemory (why.Walks fault) = fault ≡ WalksMemory
WantsMemory why.Memory = Unit {0}

-- The fault of the whole, from that of certificates.
abbrev pub fault_of_certs : {F : Type 0} → SortFault F → AcceptFault F
fault_of_certs (sorts.NotGood fault) = why.NotGood fault
fault_of_certs sorts.NoCrl = why.NoCrl
fault_of_certs sorts.Memory = why.Memory

-- The fault of the whole, from that of signers.
abbrev pub fault_of_signers : {F : Type 0} → SignFault → AcceptFault F
fault_of_signers signs.NoKey = why.NoKey
fault_of_signers signs.Digest = why.Digest
fault_of_signers signs.NoCert = why.NoCert
fault_of_signers signs.Memory = why.Memory

-- As many verdicts are asked at most: of s signers, l CRLs and a CAs s + l + s * a.
abbrev pub most_verdicts : Carried → ℕ
most_verdicts a = length a.signers + length a.crls + length a.signers * length a.cas
