-- The matching of subject keys, signers, end-entity certificates, CRLs and CAs.
use Rattle.std.proofs.Common.{◌≡◌, ℕ, true, List, [], ◌∷◌, refl, sym, ap, ◌∙◌, subst, inl}
use Rattle.std.proofs.Common.{inr}
use Rattle.std.proofs.Common.{map}
use Rattle.rpki_paths.specs.Cert.{Cert, IsIn, NoTwice}
use Rattle.rpki_paths.specs.Pairing.{IsPairing, Crl, Signer, Carried}
use Rattle.rpki_paths.specs.Pairing.{AreAlike}
use Rattle.rpki_paths.specs.Pairing.{HasKey, IsVerifiedBy, HasCrl, HasDistinctIds}
use Rattle.rpki_paths.specs.Laws.{WhatFitsIsAlike, CrlsAreUnique}
use Rattle.rpki_paths.proofs.Chains.{same-by-ski, in-map}
use Rattle.rpki_paths.proofs.Pairings.{pick-two, picked-in, partner}

keys-alike : (signers : List Signer) (keys : List (List ℕ)) → AreAlike HasKey signers keys
keys-alike signers keys x x' y y' i i' j j' e f g = (g.0 ∙ sym e.0 ∙ f.0, refl)

module _ (a : Carried) (dist : HasDistinctIds a) where
  ees-alike : AreAlike IsVerifiedBy a.signers a.ees
  ees-alike x x' y y' i i' j j' e f g =
      let same_ski : y.ski ≡ y'.ski = sym e.0 ∙ f.0 in
      let same_key : y.key ≡ y'.key = dist.of_ees y y' j j' same_ski in
      (g.0 ∙ same_ski, subst (λ k. x'.verifies k ≡ true) same_key g.1)

  -- a CRL fits one CA alone
  one-ca : (x x' : Cert) (y : Crl) → IsIn x a.cas → IsIn x' a.cas → HasCrl x y → HasCrl x' y
      → x ≡ x'
  one-ca x x' y i i' e f = same-by-ski a.cas x x' dist.of_cas i i' (e.0 ∙ sym f.0)

  crls-alike : AreAlike HasCrl a.cas a.crls
  crls-alike x x' y y' i i' j j' e f g = subst (λ d. HasCrl d y') (one-ca x x' y i i' e g) f

  -- the CRLs of a pairing are determined
  same-crls : (xs : List Cert) (ps qs ys : List Crl) → NoTwice (map (λ c. c.ski) xs)
      → ((x : Cert) → IsIn x xs → IsIn x a.cas) →
      IsPairing HasCrl xs ps ys → IsPairing HasCrl xs qs ys → ps ≡ qs
  same-crls [] [] [] ys nt sub h k = refl
  same-crls [] (p ∷ ps) qs ys nt sub h k = absurd h
  same-crls [] [] (q ∷ qs) ys nt sub h k = absurd k
  same-crls (x ∷ xs) [] qs ys nt sub h k = absurd h
  same-crls (x ∷ xs) (p ∷ ps) [] ys nt sub h k = absurd k
  same-crls (x ∷ xs) (p ∷ ps) (q ∷ qs) ys nt sub h k =
      elim (pick-two h.1.1 k.1.1) [
        | inl e ↦
            (let rest = same-crls xs ps qs h.1.0 nt.1 (λ z i. sub z (inr i)) h.1.2
            (subst (λ l. IsPairing HasCrl xs qs l) (sym e.1) k.1.2) in
            ap (λ l. l ∷ ps) e.0 ∙ ap (λ l. q ∷ l) rest)
        | inr t ↦
            (let other = partner HasCrl xs ps h.1.0 h.1.2 q (picked-in t.1) in
            let same : x ≡ other.0 =
            one-ca x other.0 q (sub x (inl refl)) (sub other.0 (inr other.1)) k.0 other.2 in
            absurd (nt.0 (in-map xs other.0 (x.ski) other.1 (ap (λ (d : Cert). d.ski) same))))
      ]

pub what_fits_is_alike : WhatFitsIsAlike
what_fits_is_alike a dist =
    (keys-alike a.signers a.subject_keys, ees-alike a dist, crls-alike a dist)

pub crls_are_unique : CrlsAreUnique
crls_are_unique a ees ees' crls crls' dist m m' =
    same-crls a dist a.cas crls crls' a.crls dist.of_cas (λ x i. i) m.crl_of m'.crl_of
