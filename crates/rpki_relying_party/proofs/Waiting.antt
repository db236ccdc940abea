-- Places that wait on branches: one more does, one is taken, and none is.
use Rattle.std.proofs.Common.{◌≡◌, ◌<◌, ◌+◌, ℕ, zero, suc, List, [], ◌∷◌, ◌++◌, length, map, refl}
use Rattle.std.proofs.Common.{sym, subst, ap, ◌∙◌, arith, get_or, take}
use Rattle.std.proofs.Math.ListN.{set}
use Rattle.std.specs.Prelude.{Option, Some, None, IsPermutation, Result, Ok, Err, OnOk}
use Rattle.std.proofs.lemmas.List.{map-append}
use Rattle.std.proofs.lemmas.List.Elements.{filter_map-append}
use Rattle.std.proofs.lemmas.List.Sorted.{IsPermutation-refl, IsPermutation-sym, IsPermutation-cons}
use Rattle.std.proofs.lemmas.List.Sorted.{IsPermutation-to_front, IsPermutation-trans}
use Rattle.std.proofs.lemmas.List.Sorted.{IsPermutation-middle}
use Rattle.std.proofs.lemmas.List.{map-set, get_or-map, length-map}
use Rattle.std.proofs.Math.Seq.{map-set_same}
use Rattle.rpki_relying_party.specs.Queue.{place_on, somes, waiting_in, TakesNone}
use Rattle.rpki_relying_party.specs.declared.queue.Branch.{Branch}

pub on-ok : {T E P : Type 0} (r : Result T E) → P → OnOk r P
on-ok (Ok t) p = p
on-ok (Err e) p = tt

pub on-ok-then : {T E P Q : Type 0} (r : Result T E) → OnOk r P → (P → Q) → OnOk r Q
on-ok-then (Ok t) p f = f p
on-ok-then (Err e) p f = tt

module _ {P : Type 0} where
  -- one more waits, behind the others
  pub one-more : (os : List (Option P)) (p : P)
      → IsPermutation (p ∷ somes os) (somes (os ++ Some p ∷ []))
  one-more os p = subst (λ (l : List P). IsPermutation (p ∷ somes os) l)
      (sym (filter_map-append (λ (o : Option P). o) os (Some p ∷ [])))
      (IsPermutation-sym (somes os ++ p ∷ []) (p ∷ somes os) (IsPermutation-to_front (somes os) p))

  -- one is taken
  one-taken : (os : List (Option P)) (i : ℕ) (p : P) (d : Option P) → i < length os
      → get_or os i d ≡ Some p → IsPermutation (somes os) (p ∷ somes (set os i None))
  one-taken [] i p d l e = absurd (omega (arith, l))
  one-taken (o ∷ os) zero p d l e = subst (λ (x : Option P).
      IsPermutation (somes (x ∷ os)) (p ∷ somes os)) (sym e) (IsPermutation-refl (p ∷ somes os))
  one-taken (None ∷ os) (suc i) p d l e = one-taken os i p d (omega (arith, l)) e
  one-taken (Some q ∷ os) (suc i) p d l e =
      let rest = somes (set os i None) in
      IsPermutation-trans (q ∷ somes os) (q ∷ p ∷ rest) (p ∷ q ∷ rest)
      (IsPermutation-cons q (somes os) (p ∷ rest) (one-taken os i p d (omega (arith, l)) e))
      (IsPermutation-middle (q ∷ []) p rest)

  -- one is put where none waits
  put-none : (os : List (Option P)) (i : ℕ) (p : P) (d : Option P) → i < length os
      → get_or os i d ≡ None → IsPermutation (p ∷ somes os) (somes (set os i (Some p)))
  put-none [] i p d l e = absurd (omega (arith, l))
  put-none (o ∷ os) zero p d l e = subst (λ (x : Option P).
      IsPermutation (p ∷ somes (x ∷ os)) (p ∷ somes os)) (sym e) (IsPermutation-refl (p ∷ somes os))
  put-none (None ∷ os) (suc i) p d l e = put-none os i p d (omega (arith, l)) e
  put-none (Some q ∷ os) (suc i) p d l e =
      let rest = somes (set os i (Some p)) in
      IsPermutation-trans (p ∷ q ∷ somes os) (q ∷ p ∷ somes os) (q ∷ rest)
      (IsPermutation-middle (p ∷ []) q (somes os))
      (IsPermutation-cons q (p ∷ somes os) rest (put-none os i p d (omega (arith, l)) e))

  -- one is put where another waits
  put-some : (os : List (Option P)) (i : ℕ) (p q : P) (d : Option P) → i < length os
      → get_or os i d ≡ Some q → IsPermutation (p ∷ somes os) (q ∷ somes (set os i (Some p)))
  put-some [] i p q d l e = absurd (omega (arith, l))
  put-some (o ∷ os) zero p q d l e = subst (λ (x : Option P).
      IsPermutation (p ∷ somes (x ∷ os)) (q ∷ p ∷ somes os)) (sym e)
      (IsPermutation-middle (p ∷ []) q (somes os))
  put-some (None ∷ os) (suc i) p q d l e = put-some os i p q d (omega (arith, l)) e
  put-some (Some r ∷ os) (suc i) p q d l e =
      let rest = somes (set os i (Some p)) in
      IsPermutation-trans (p ∷ r ∷ somes os) (r ∷ p ∷ somes os) (q ∷ r ∷ rest)
      (IsPermutation-middle (p ∷ []) r (somes os))
      (IsPermutation-trans (r ∷ p ∷ somes os) (r ∷ q ∷ rest) (q ∷ r ∷ rest)
      (IsPermutation-cons r (p ∷ somes os) (q ∷ rest) (put-some os i p q d (omega (arith, l)) e))
      (IsPermutation-middle (r ∷ []) q rest))

  -- none of the first ones waits, nor does the next
  pub none-yet : (os : List (Option P)) (i : ℕ) → i < length os → somes (take i os) ≡ []
      → get_or os i None ≡ None → somes (take (suc i) os) ≡ []
  none-yet [] i l h e = refl
  none-yet (o ∷ os) zero l h e = ap (λ (x : Option P). somes (x ∷ [])) e
  none-yet (None ∷ os) (suc i) l h e = none-yet os i (omega (arith, l)) h e
  none-yet (Some q ∷ os) (suc i) l h e = absurd (some-not q (somes (take i os)) h)
    where
      some-not : (q : P) (qs : List P) → q ∷ qs ≡ [] → ⊥
      some-not q qs h = absurd (omega (arith, ap (λ (l : List P). length l) h))

  -- a branch changes, and not what waits on it
  pub same-places : (bs : List (Branch P)) (i : ℕ) (b d : Branch P)
      → place_on b ≡ place_on (get_or bs i d) → map place_on (set bs i b) ≡ map place_on bs
  same-places bs i b d e = map-set_same place_on bs i b d e

  pub same-waiting : (bs : List (Branch P)) (i : ℕ) (b d : Branch P)
      → place_on b ≡ place_on (get_or bs i d) → waiting_in (set bs i b) ≡ waiting_in bs
  same-waiting bs i b d e = ap (λ (l : List (Option P)). somes l) (same-places bs i b d e)

  -- a place is taken from a branch
  pub taken : (bs : List (Branch P)) (i : ℕ) (b d : Branch P) (p : P) → i < length bs
      → place_on (get_or bs i d) ≡ Some p → place_on b ≡ None
      → IsPermutation (waiting_in bs) (p ∷ waiting_in (set bs i b))
  taken bs i b d p l e none = subst (λ (os : List (Option P)).
      IsPermutation (waiting_in bs) (p ∷ somes os))
      (sym (map-set place_on bs i b ∙ ap (λ (o : Option P). set (map place_on bs) i o) none))
      (one-taken (map place_on bs) i p None (omega (arith, l, length-map bs (place_on {P = P})))
      (get_or-map place_on bs i d None l ∙ e))

  -- a place is put on a branch on which none waits
  pub put-free : (bs : List (Branch P)) (i : ℕ) (b d : Branch P) (p : P) → i < length bs
      → place_on (get_or bs i d) ≡ None → place_on b ≡ Some p
      → IsPermutation (p ∷ waiting_in bs) (waiting_in (set bs i b))
  put-free bs i b d p l e now = subst (λ (os : List (Option P)).
      IsPermutation (p ∷ waiting_in bs) (somes os))
      (sym (map-set place_on bs i b ∙ ap (λ (o : Option P). set (map place_on bs) i o) now))
      (put-none (map place_on bs) i p None (omega (arith, l, length-map bs (place_on {P = P})))
      (get_or-map place_on bs i d None l ∙ e))

  -- a place is put on a branch on which another waits
  pub put-over : (bs : List (Branch P)) (i : ℕ) (b d : Branch P) (p q : P) → i < length bs
      → place_on (get_or bs i d) ≡ Some q → place_on b ≡ Some p
      → IsPermutation (p ∷ waiting_in bs) (q ∷ waiting_in (set bs i b))
  put-over bs i b d p q l e now = subst (λ (os : List (Option P)).
      IsPermutation (p ∷ waiting_in bs) (q ∷ somes os))
      (sym (map-set place_on bs i b ∙ ap (λ (o : Option P). set (map place_on bs) i o) now))
      (put-some (map place_on bs) i p q None (omega (arith, l, length-map bs (place_on {P = P})))
      (get_or-map place_on bs i d None l ∙ e))

  -- a branch is new, and then others change
  pub put-new : (bs bs2 bs3 : List (Branch P)) (b : Branch P) (p : P) → bs2 ≡ bs ++ b ∷ []
      → place_on b ≡ Some p → waiting_in bs3 ≡ waiting_in bs2
      → IsPermutation (p ∷ waiting_in bs) (waiting_in bs3)
  put-new bs bs2 bs3 b p e h f = subst (λ (l : List P). IsPermutation (p ∷ waiting_in bs) l)
      (sym (f ∙ ap (λ (l : List (Branch P)). waiting_in l) e
      ∙ ap (λ (os : List (Option P)). somes os) (map-append place_on bs (b ∷ [])
      ∙ ap (λ (o : Option P). map place_on bs ++ o ∷ []) h)))
      (one-more (map place_on bs) p)

  -- one branch more has none
  pub none-next : (bs bs2 bs3 : List (Branch P)) (i : ℕ) → i < length bs
      → map place_on bs2 ≡ map place_on bs → somes (take i (map place_on bs)) ≡ []
      → TakesNone i bs2 bs3
      → (map place_on bs3 ≡ map place_on bs) × (somes (take (i + 1) (map place_on bs)) ≡ [])
  none-next bs bs2 bs3 i l e h t = (
    t.same ∙ e,
    ap (λ (n : ℕ). somes (take n (map place_on bs))) (one-up i)
        ∙ none-yet (map place_on bs) i (omega (arith, l, length-map bs (place_on {P = P}))) h
        (ap (λ (os : List (Option P)). get_or os i None) (sym e) ∙ t.none as-long),
  )
    where
      one-up : (n : ℕ) → n + 1 ≡ suc n
      one-up n = omega arith

      as-long : i < length bs2
      as-long = omega (
        arith,
        l,
        length-map bs (place_on {P = P}),
        length-map bs2 (place_on {P = P}),
        ap (λ (os : List (Option P)). length os) e,
      )
