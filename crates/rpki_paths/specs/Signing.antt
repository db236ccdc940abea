-- Signers in carried order: each takes a subject key and an end-entity certificate
-- (draft-michaelson-rpki-rta).
use Rattle.std.specs.Prelude.{◌≡◌, ℕ, List, ◌∷◌, ◌++◌, IsTrue}
use Rattle.rpki_paths.specs.declared.signing.SignFault.{SignFault}
use Rattle.rpki_paths.specs.declared.signing.SignFault.TheVariants.{NoKey, Digest, NoCert, Memory}
use Rattle.rpki_paths.specs.Cert.{Cert, IsIn}
use Rattle.rpki_paths.specs.Pairing.{Signer, HasKey, IsVerifiedBy}
use Rattle.rpki_paths.specs.Taking.{PairsOff, FitsNone}

-- Each of these signers has the digest of the content; in carried order each took the first of the
-- subject keys that is its own and was left, and the first of the end-entity certificates that it
-- names, whose key verifies it and that was left. In order, `taken` are these certificates; what is
-- left over of both stands at the end.
pub record AreSigned (signers : List Signer) (keys : List (List ℕ)) (ees taken : List Cert)
    (left_keys : List (List ℕ)) (left_ees : List Cert) : Type 0 where
  pub taken_keys : List (List ℕ)
  pub keyed : PairsOff HasKey signers taken_keys keys left_keys
  pub digests : (s : Signer) → IsIn s signers → IsTrue s.digest_holds
  pub signed : PairsOff IsVerifiedBy signers taken ees left_ees

-- P holds of some of these.
abbrev pub FitsSome : {A : Type 0} → (A → Type 0) → List A → Type 0
FitsSome {A} P ys = (y : A) × IsIn y ys × P y

-- Why one signer does not take what it needs of the keys and certificates that are left, in this
-- order: no key is its own; its digest attribute is not the digest of the content; no certificate
-- is one that it names and whose key verifies it. The first that fails is answered. Where memory is
-- wanting, none of them need have failed.
abbrev pub WhyNotSigner : Signer → List (List ℕ) → List Cert → SignFault → Type 0
WhyNotSigner s keys ees NoKey = FitsNone (HasKey s) keys
WhyNotSigner s keys ees Digest = FitsSome (HasKey s) keys × ¬ (IsTrue s.digest_holds)
WhyNotSigner s keys ees NoCert =
    FitsSome (HasKey s) keys × IsTrue s.digest_holds × FitsNone (IsVerifiedBy s) ees
WhyNotSigner s keys ees Memory = Unit {0}

-- The first signer that does not take what it needs, and why: those before it did.
pub record StopsAtSigner (signers : List Signer) (keys : List (List ℕ)) (ees : List Cert)
    (fault : SignFault) : Type 0 where
  pub done : List Signer
  pub signer : Signer
  pub more : List Signer
  pub taken : List Cert
  pub left_keys : List (List ℕ)
  pub left_ees : List Cert
  pub parts : signers ≡ done ++ signer ∷ more
  pub before : AreSigned done keys ees taken left_keys left_ees
  pub why : WhyNotSigner signer left_keys left_ees fault

-- Why signers are not taken: the first that does not take what it needs, and why; or memory is
-- wanting.
abbrev pub WhyNotSigned : List Signer → List (List ℕ) → List Cert → SignFault → Type 0
WhyNotSigned signers keys ees NoKey = StopsAtSigner signers keys ees NoKey
WhyNotSigned signers keys ees Digest = StopsAtSigner signers keys ees Digest
WhyNotSigned signers keys ees NoCert = StopsAtSigner signers keys ees NoCert
WhyNotSigned signers keys ees Memory = Unit {0}
