-- Signers that take in carried order.
use Rattle.std.proofs.Common.{◌≡◌, ℕ, List, [], ◌∷◌, ◌++◌, map, refl, sym, ap, ◌∙◌, subst, IsTrue}
use Rattle.std.proofs.Common.{◌↔◌, inl, inr, true}
use Rattle.rpki_paths.specs.Cert.{Cert}
use Rattle.rpki_paths.specs.Pairing.{IsPair, Signer, HasKey, IsVerifiedBy}
use Rattle.rpki_paths.specs.Taking.{IsFirst, first, later, FitsNone}
use Rattle.rpki_paths.proofs.PairingOff.{pairs-more}
use Rattle.rpki_paths.proofs.WalkingEach.{in-more}
use Rattle.rpki_paths.specs.Signing.{AreSigned, FitsSome, WhyNotSigner, WhyNotSigned}
use Rattle.rpki_paths.specs.declared.signing.SignFault.{SignFault}
use Rattle.rpki_paths.specs.declared.signing.SignFault.TheVariants.{NoKey, Digest, NoCert, Memory}

-- ---- keys

pub same-map : {A : Type 0} (xs : List A) → map (λ x. x) xs ≡ xs
same-map [] = refl
same-map (x ∷ xs) = ap (λ l. x ∷ l) (same-map xs)

first-same : {A : Type 0} (P Q : A → Type 0) → ((y : A) → P y ↔ Q y) → {p : A} {rest ys : List A}
    → IsFirst P p rest ys → IsFirst Q p rest ys
first-same P Q same (first {y} h) = first ((same y).0 h)
first-same P Q same (later {z} n h) = later (λ q. n ((same z).1 q)) (first-same P Q same h)

abbrev pub IsSame : List ℕ → List ℕ → Type 0
IsSame = IsPair (λ k. k) (λ k. k) (λ k l. true)

-- the first that fits is one of them that fits
pub fits-some : {A : Type 0} (P : A → Type 0) {y : A} {rest ys : List A} → IsFirst P y rest ys
    → FitsSome P ys
fits-some P (first {y} h) = (y, inl refl, h)
fits-some P (later {z} n h) = let t = fits-some P h in (t.0, inr t.1, t.2)

module _ (id : List ℕ) (s : Signer) (e : id ≡ s.sid) where
  same-key : (k : List ℕ) → IsSame id k ↔ HasKey s k
  same-key k = (λ p. (sym e ∙ p.0, p.1), λ p. (e ∙ p.0, p.1))

  pub key-first : {k : List ℕ} {rest keys : List (List ℕ)} → IsFirst (IsSame id) k rest keys
      → IsFirst (HasKey s) k rest keys
  key-first h = first-same (IsSame id) (HasKey s) same-key h

  pub key-none : (keys : List (List ℕ)) → FitsNone (IsSame id) keys → FitsNone (HasKey s) keys
  key-none keys none k i q = none k i ((same-key k).1 q)

-- ---- signers so far

pub signed-start : (keys left_keys : List (List ℕ)) (ees taken left_ees : List Cert)
    → left_keys ≡ keys → left_ees ≡ ees → taken ≡ []
    → AreSigned [] keys ees taken left_keys left_ees
signed-start keys left_keys ees taken left_ees e f g =
    subst (λ l. AreSigned [] keys ees l left_keys left_ees) (sym g) (record {
      taken_keys = [];
      keyed = sym e;
      digests = λ s i. absurd i;
      signed = sym f;
    })

pub signed-more : (done : List Signer) (keys left_keys rest_keys : List (List ℕ))
    (ees taken left_ees rest_ees : List Cert) (s : Signer) (k : List ℕ) (e : Cert)
    → AreSigned done keys ees taken left_keys left_ees → IsFirst (HasKey s) k rest_keys left_keys
    → IsTrue s.digest_holds → IsFirst (IsVerifiedBy s) e rest_ees left_ees
    → AreSigned (done ++ s ∷ []) keys ees (taken ++ e ∷ []) rest_keys rest_ees
signed-more done keys left_keys rest_keys ees taken left_ees rest_ees s k e w f h g = record {
  taken_keys = w.taken_keys ++ k ∷ [];
  keyed = pairs-more HasKey done w.taken_keys keys left_keys rest_keys s k w.keyed f;
  digests = λ t i. elim (in-more t s done i) [
    | inl j ↦ w.digests t j
    | inr same ↦ subst (λ (z : Signer). IsTrue z.digest_holds) (sym same) h
  ];
  signed = pairs-more IsVerifiedBy done taken ees left_ees rest_ees s e w.signed g;
}

-- the same, of what is equal
pub signed-alike : {signers others : List Signer} {keys left_keys other_keys : List (List ℕ)}
    {ees taken others_taken left_ees other_ees : List Cert} → others ≡ signers
    → others_taken ≡ taken → other_keys ≡ left_keys → other_ees ≡ left_ees
    → AreSigned signers keys ees taken left_keys left_ees
    → AreSigned others keys ees others_taken other_keys other_ees
signed-alike {signers} {others} {keys} {left_keys} {other_keys} {ees} {taken} {others_taken}
    {left_ees} {other_ees} e f h i w =
    subst (λ l. AreSigned l keys ees others_taken other_keys other_ees) (sym e)
    (subst (λ l. AreSigned signers keys ees l other_keys other_ees) (sym f)
    (subst (λ l. AreSigned signers keys ees taken l other_ees) (sym h)
    (subst (λ l. AreSigned signers keys ees taken left_keys l) (sym i) w)))

-- why one takes nothing is why not all do
pub stops-at : (signers done more : List Signer) (s : Signer) (keys left_keys : List (List ℕ))
    (ees taken left_ees : List Cert) (fault : SignFault)
    → AreSigned done keys ees taken left_keys left_ees → signers ≡ done ++ s ∷ more
    → WhyNotSigner s left_keys left_ees fault → WhyNotSigned signers keys ees fault
stops-at signers done more s keys left_keys ees taken left_ees NoKey w e why = record {
  done = done;
  signer = s;
  more = more;
  taken = taken;
  left_keys = left_keys;
  left_ees = left_ees;
  parts = e;
  before = w;
  why = why;
}
stops-at signers done more s keys left_keys ees taken left_ees Digest w e why = record {
  done = done;
  signer = s;
  more = more;
  taken = taken;
  left_keys = left_keys;
  left_ees = left_ees;
  parts = e;
  before = w;
  why = why;
}
stops-at signers done more s keys left_keys ees taken left_ees NoCert w e why = record {
  done = done;
  signer = s;
  more = more;
  taken = taken;
  left_keys = left_keys;
  left_ees = left_ees;
  parts = e;
  before = w;
  why = why;
}
stops-at signers done more s keys left_keys ees taken left_ees Memory w e why = tt
