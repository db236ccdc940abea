-- With distinct identifiers each signer and each CA costs one verdict.
use Rattle.std.proofs.Common.{◌≡◌, List, [], ◌∷◌, IsTrue, sym, ◌∙◌, subst, inl, inr}
use Rattle.rpki_paths.specs.Cert.{Cert, IsIn}
use Rattle.rpki_paths.specs.Pairing.{IsPairing}
use Rattle.rpki_paths.specs.Pairing.{IsVerifiedBy, HasCrl}
use Rattle.rpki_paths.specs.Laws.{MatchingIsCheap}
use Rattle.rpki_paths.proofs.Chains.{same-by-ski}
use Rattle.rpki_paths.proofs.Pairings.{partner, picked-in, picked-sub}

own-partner : {A B : Type 0} (R : A → B → Type 0) (xs : List A) (ps ys : List B)
    → IsPairing R xs ps ys → (x : A) → IsIn x xs → (y : B) × IsIn y ys × R x y
own-partner R [] ps ys h x i = absurd i
own-partner R (z ∷ xs) [] ys h x i = absurd h
own-partner R (z ∷ xs) (p ∷ ps) ys h x (inl e) =
    (p, picked-in h.1.1, subst (λ w. R w p) (sym e) h.0)
own-partner R (z ∷ xs) (p ∷ ps) ys h x (inr i) =
    let t = own-partner R xs ps h.1.0 h.1.2 x i in (t.0, picked-sub h.1.1 t.0 t.1, t.2)

pub matching_is_cheap : MatchingIsCheap
matching_is_cheap a ees crls dist m = (
  λ s i e j named.
      (let own = own-partner IsVerifiedBy a.signers ees a.ees m.signed s i in
      let same : own.0.key ≡ e.key =
      dist.of_ees own.0 e own.1 j (sym own.2.0 ∙ named) in
      subst (λ k. IsTrue (s.verifies k)) same own.2.1),
  λ d i l j named.
      (let own = partner HasCrl a.cas crls a.crls m.crl_of l j in
      let same : own.0 ≡ d =
      same-by-ski a.cas own.0 d dist.of_cas own.1 i (own.2.0 ∙ sym named) in
      subst (λ (x : Cert). IsTrue (l.verifies x.key)) same own.2.1),
)
