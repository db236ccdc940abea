-- Of each key one place is read; places are read or left.
use Rattle.std.proofs.Common.{◌≡◌, inl, inr, ℕ, List, [], ◌∷◌, ◌++◌, Bool, true, false}
use Rattle.std.proofs.Common.{map, refl, sym, subst, ap, ◌∙◌, append_assoc}
use Rattle.std.specs.Prelude.{◌↔◌, IsTrue, IsPermutation, bytes_eq}
use Rattle.std.specs.List.{IsDistinct}
use Rattle.std.proofs.lemmas.List.{map-append}
use Rattle.std.proofs.lemmas.List.Elements.{recursion_from_All, Contains-append_left, Contains-push}
use Rattle.std.proofs.lemmas.List.Sorted.{IsPermutation-sym, IsPermutation-trans}
use Rattle.std.proofs.lemmas.List.Sorted.{IsPermutation-append_left, IsPermutation-append_right}
use Rattle.std.proofs.lemmas.List.Sorted.{IsPermutation-append_comm, IsPermutation-middle}
use Rattle.std.proofs.lemmas.List.Sorted.{IsPermutation-map, IsPermutation-to_front}
use Rattle.std.proofs.lemmas.Map.Keys.{IsDistinct-cons, IsDistinct-IsPermutation}
use Rattle.std.proofs.lemmas.Slice.Eq.{bytes_eq-Decides}
use Rattle.rpki_relying_party.specs.Walk.{Read, Left, HasKey, places_read, places_left}
use Rattle.rpki_relying_party.specs.Walk.{places_settled}
use Rattle.rpki_relying_party.specs.Steps.{Adds}
use Rattle.rpki_relying_party.proofs.Lists.{mapped-from, all-of, push-cases}

-- octets that differ are not equal by `==`
pub differ : (a b : List ℕ) → ¬ (a ≡ b) → bytes_eq a b ≡ false
differ a b n = by (bytes_eq a b) refl
  where
    by : (t : Bool) → bytes_eq a b ≡ t → t ≡ false
    by true e = absurd (n ((bytes_eq-Decides a b).0 e))
    by false e = refl

either-way : (a b : List ℕ) → bytes_eq a b ≡ bytes_eq b a
either-way a b = by (bytes_eq a b) refl
  where
    by : (t : Bool) → bytes_eq a b ≡ t → t ≡ bytes_eq b a
    by true e = sym ((bytes_eq-Decides b a).1 (sym ((bytes_eq-Decides a b).0 e)))
    by false e = sym (differ b a (λ s. absurd (cc ((bytes_eq-Decides a b).1 (sym s)))))

-- These places have keys that differ, and just these are the keys.
pub record AreKeyed {P : Type 0} (key : P → List ℕ) (keys : List ℕ → Bool) (places : List P)
    : Type 0 where
  pub distinct : IsDistinct bytes_eq (map key places)
  pub keyed : (k : List ℕ) → IsTrue (keys k) ↔ HasKey key places k

module _ {P : Type 0} (key : P → List ℕ) where
  -- one more is read
  module _ (keys keys2 : List ℕ → Bool) (places : List P) (p : P)
      (h : AreKeyed key keys places) (unknown : ¬ IsTrue (keys (key p)))
      (now : Adds (key p) keys keys2) where
    abbrev places2 : List P
    places2 = places ++ p ∷ []

    distinct2 : IsDistinct bytes_eq (map key places2)
    distinct2 = IsDistinct-IsPermutation bytes_eq either-way (map key (p ∷ places))
        (map key places2) (IsPermutation-map key (p ∷ places) places2
        (IsPermutation-sym places2 (p ∷ places) (IsPermutation-to_front places p)))
        (IsDistinct-cons bytes_eq (key p) (map key places)
        (recursion_from_All (λ k. bytes_eq (key p) k ≡ false) (map key places)
        (all-of (λ k. bytes_eq (key p) k ≡ false) (map key places) (λ k c.
        differ (key p) k (λ e. unknown ((h.keyed (key p)).1 (
        let q = mapped-from key places k c in (q.0, q.1, q.2 ∙ sym e)))))))
        h.distinct)

    keyed2 : (k : List ℕ) → IsTrue (keys2 k) ↔ HasKey key places2 k
    keyed2 k = (
      λ t. elim ((now k).0 t) [
        | inl old ↦ (let w = (h.keyed k).0 old in
            (w.0, Contains-append_left places (p ∷ []) (w.0) (w.1), w.2))
        | inr s ↦ (p, Contains-push places p, sym s)
      ],
      λ w. (now k).1 (elim (push-cases places p (w.0) (w.1)) [
        | inl c ↦ inl ((h.keyed k).1 (w.0, c, w.2))
        | inr s ↦ inr (sym (w.2) ∙ ap key s)
      ]),
    )

    pub one-key : AreKeyed key keys2 places2
    one-key = record { distinct = distinct2; keyed = keyed2 }

-- ---- orders
module _ {P X : Type 0} where
  pub one-read : (reads : List (Read P X)) (unread : List (Left P)) (r : Read P X)
      → IsPermutation (r.place ∷ places_settled reads unread)
      (places_settled (reads ++ r ∷ []) unread)
  one-read reads unread r =
      let rs = places_read reads in
      let ls = places_left unread in
      subst (λ (l : List P). IsPermutation (r.place ∷ (rs ++ ls)) (l ++ ls))
      (sym (map-append (λ (s : Read P X). s.place) reads (r ∷ [])))
      (subst (λ (l : List P). IsPermutation (r.place ∷ (rs ++ ls)) l)
      (sym (append_assoc rs (r.place ∷ []) ls))
      (IsPermutation-sym (rs ++ r.place ∷ ls) (r.place ∷ (rs ++ ls))
      (IsPermutation-middle rs r.place ls)))

  pub one-left : (reads : List (Read P X)) (unread : List (Left P)) (u : Left P)
      → IsPermutation (u.place ∷ places_settled reads unread)
      (places_settled reads (unread ++ u ∷ []))
  one-left reads unread u =
      let rs = places_read reads in
      let ls = places_left unread in
      subst (λ (l : List P). IsPermutation (u.place ∷ (rs ++ ls)) (rs ++ l))
      (sym (map-append (λ (v : Left P). v.place) unread (u ∷ [])))
      (subst (λ (l : List P). IsPermutation (u.place ∷ (rs ++ ls)) l)
      (append_assoc rs ls (u.place ∷ []))
      (IsPermutation-sym ((rs ++ ls) ++ u.place ∷ []) (u.place ∷ (rs ++ ls))
      (IsPermutation-to_front (rs ++ ls) u.place)))

module _ {P : Type 0} where
  swap-front : (xs ys zs : List P) → IsPermutation (xs ++ (ys ++ zs)) (ys ++ (xs ++ zs))
  swap-front xs ys zs =
      subst (λ (l : List P). IsPermutation l (ys ++ (xs ++ zs))) (append_assoc xs ys zs)
      (subst (λ (l : List P). IsPermutation ((xs ++ ys) ++ zs) l) (append_assoc ys xs zs)
      (IsPermutation-append_left zs (xs ++ ys) (ys ++ xs) (IsPermutation-append_comm xs ys)))

  -- some of those that wait are passed over
  pub order-passed : (told ss ps w qs w2 : List P) → IsPermutation told (ss ++ (ps ++ w))
      → IsPermutation w (qs ++ w2) → IsPermutation told (ss ++ ((ps ++ qs) ++ w2))
  order-passed told ss ps w qs w2 h i = IsPermutation-trans told (ss ++ (ps ++ w))
      (ss ++ ((ps ++ qs) ++ w2)) h (IsPermutation-append_right ss (ps ++ w) ((ps ++ qs) ++ w2)
      (subst (λ (l : List P). IsPermutation (ps ++ w) l) (sym (append_assoc ps qs w2))
      (IsPermutation-append_right ps w (qs ++ w2) i)))

  -- one of those that wait is settled
  pub order-settled : (told ss ss2 ps w : List P) (p : P)
      → IsPermutation told (ss ++ (ps ++ p ∷ w)) → IsPermutation (p ∷ ss) ss2
      → IsPermutation told (ss2 ++ (ps ++ w))
  order-settled told ss ss2 ps w p h i =
      IsPermutation-trans told (ss ++ (ps ++ p ∷ w)) (ss2 ++ (ps ++ w)) h
      (IsPermutation-trans (ss ++ (ps ++ p ∷ w)) (ss ++ p ∷ (ps ++ w)) (ss2 ++ (ps ++ w))
      (IsPermutation-append_right ss (ps ++ p ∷ w) (p ∷ (ps ++ w)) (IsPermutation-middle ps p w))
      (IsPermutation-trans (ss ++ p ∷ (ps ++ w)) (p ∷ (ss ++ (ps ++ w))) (ss2 ++ (ps ++ w))
      (IsPermutation-middle ss p (ps ++ w))
      (IsPermutation-append_left (ps ++ w) (p ∷ ss) ss2 i)))

  -- others wait
  pub order-met : (told ss ps w children : List P) → IsPermutation told (ss ++ (ps ++ w))
      → IsPermutation (told ++ children) (ss ++ (ps ++ (children ++ w)))
  order-met told ss ps w children h =
      let end = ss ++ (ps ++ (children ++ w)) in
      IsPermutation-trans (told ++ children) (children ++ told) end
      (IsPermutation-append_comm told children)
      (IsPermutation-trans (children ++ told) (children ++ (ss ++ (ps ++ w))) end
      (IsPermutation-append_right children told (ss ++ (ps ++ w)) h)
      (IsPermutation-trans (children ++ (ss ++ (ps ++ w))) (ss ++ (children ++ (ps ++ w))) end
      (swap-front children ss (ps ++ w))
      (IsPermutation-append_right ss (children ++ (ps ++ w)) (ps ++ (children ++ w))
      (swap-front children ps w))))
