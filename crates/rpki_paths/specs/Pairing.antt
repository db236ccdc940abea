-- One-to-one pairings of what an attestation carries (draft-michaelson-rpki-rta).
use Rattle.std.specs.Prelude.{◌≡◌, ℕ, Bool, true, List, [], ◌∷◌, IsTrue}
use Rattle.rpki_paths.specs.Cert.{Cert, IsIn}
use Rattle.rpki_paths.specs.Path.{IsDistinct}

-- The list `xs` is `rest` with `x` at some place.
pub data IsPicked {A : Type 0} : A → List A → List A → Type 0 where
  here : {x : A} {xs : List A} → IsPicked x xs (x ∷ xs)
  there : {x y : A} {rest xs : List A} → IsPicked x rest xs → IsPicked x (y ∷ rest) (y ∷ xs)

-- The partners of `xs`, in order, are all of `ys`, each once, and each pair is related by `R`.
abbrev pub IsPairing : {A B : Type 0} → (A → B → Type 0) → List A → List B → List B → Type 0
IsPairing R [] [] ys = ys ≡ []
IsPairing R [] (p ∷ partners) ys = ⊥
IsPairing R (x ∷ xs) [] ys = ⊥
IsPairing {B} R (x ∷ xs) (p ∷ partners) ys =
    R x p × ((rest : List B) × IsPicked p rest ys × IsPairing R xs partners rest)

-- There is a pairing of xs with ys by R.
abbrev pub IsPairable : {A B : Type 0} → (A → B → Type 0) → List A → List B → Type 0
IsPairable {B} R xs ys = (partners : List B) × IsPairing R xs partners ys

-- Of the first list, the items that share one partner that fits have all their fitting partners in
-- common.
abbrev pub AreAlike : {A B : Type 0} → (A → B → Type 0) → List A → List B → Type 0
AreAlike {A} {B} R xs ys =
    (x x' : A) (y y' : B) → IsIn x xs → IsIn x' xs → IsIn y ys → IsIn y' ys →
    R x y → R x y' → R x' y → R x' y'

-- The two are a pair: the identifier that one seeks is the other's, and the verdict on them is yes.
abbrev pub IsPair : {X Y : Type 0} → (X → List ℕ) → (Y → List ℕ) → (X → Y → Bool) → X → Y → Type 0
IsPair sought held verdict x y = (sought x ≡ held y) × IsTrue (verdict x y)

-- A carried CRL: its authority key identifier, its serials, and whether a key verifies it.
pub record Crl : Type 0 where
  pub aki : List ℕ
  pub serials : ℕ → Bool
  pub verifies : List ℕ → Bool

-- A signer: its key identifier, whether its digest attribute is the digest of the content, and
-- whether a key verifies its signature over its attributes (RFC 5652, section 5.4).
pub record Signer : Type 0 where
  pub sid : List ℕ
  pub digest_holds : Bool
  pub verifies : List ℕ → Bool

-- What an attestation carries.
pub record Carried : Type 0 where
  pub subject_keys : List (List ℕ)
  pub signers : List Signer
  pub ees : List Cert
  pub cas : List Cert
  pub crls : List Crl

-- The signer has this subject key.
abbrev pub HasKey : Signer → List ℕ → Type 0
HasKey = IsPair (λ s. s.sid) (λ key. key) (λ s key. true)

-- The signer names this end-entity certificate, whose key verifies it.
abbrev pub IsVerifiedBy : Signer → Cert → Type 0
IsVerifiedBy = IsPair (λ s. s.sid) (λ e. e.ski) (λ s e. s.verifies e.key)

-- The CRL names this CA, whose key verifies it (RFC 6487, section 5). That its times are not looked
-- at, where section 7.2 asks for the current one, is this project's own rule.
abbrev pub HasCrl : Cert → Crl → Type 0
HasCrl = IsPair (λ d. d.ski) (λ l. l.aki) (λ d l. l.verifies d.key)

-- All matches: signers pair off one to one with subject keys and with end-entity certificates, CAs
-- pair off with CRLs, and every signer has the digest of the content. In order, ees are the
-- partners of the signers, and crls those of the CAs.
pub record IsMatching (a : Carried) (ees : List Cert) (crls : List Crl) : Type 0 where
  pub keys : IsPairable HasKey a.signers a.subject_keys
  pub digests : (s : Signer) → IsIn s a.signers → IsTrue s.digest_holds
  pub signed : IsPairing IsVerifiedBy a.signers ees a.ees
  pub crl_of : IsPairing HasCrl a.cas crls a.crls

-- No two carried CAs share a subject key identifier, and end-entity certificates that share one
-- have the same key.
pub record HasDistinctIds (a : Carried) : Type 0 where
  pub of_cas : IsDistinct a.cas
  pub of_ees : (e e' : Cert) → IsIn e a.ees → IsIn e' a.ees → e.ski ≡ e'.ski → e.key ≡ e'.key
