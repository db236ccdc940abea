-- No name stands twice: the names that were seen, and those that are left.
use Rattle.std.proofs.Common.{◌≡◌, ℕ, Bool, true, false, cond, List, [], ◌∷◌, refl, sym, ap, subst}
use Rattle.std.proofs.Common.{◌∙◌, Bor}
use Rattle.std.specs.Prelude.{not, ◌&&◌, ◌||◌}
use Rattle.std.specs.List.{list_all}
use Rattle.std.specs.Str.{bytes_eq}
use Rattle.std.specs.BTreeSet.{BTreeSet, Updates}
use Rattle.std.proofs.lemmas.Bool.Decides.{same_from_decides}
use Rattle.std.proofs.lemmas.Map.Text.{is_eq-slice_cmp}
use Rattle.std.proofs.lemmas.Slice.Eq.{bytes_eq-Decides}
use Rattle.rpki_der.specs.Form.Keyed.{has_key, are_distinct}
use Rattle.rpki_basics.proofs.OctetSets.{order, has_octets, slice}

-- whether no key of the items is in the set
abbrev pub are_fresh : {I : Type 0} → (I → List ℕ) → BTreeSet (Bor (List ℕ)) → List I → Bool
are_fresh key set items = list_all (λ i. not (has_octets set (key i))) items

-- Whether the keys of all differ is left to those that are left.
pub record SeenSoFar {I : Type 0} (key : I → List ℕ) (all : List I)
    (set : BTreeSet (Bor (List ℕ))) (rest : List I) : Type 0 where
  pub left : are_distinct key all ≡ (are_fresh key set rest && are_distinct key rest)

bytes-swap : (a b : List ℕ) → bytes_eq a b ≡ bytes_eq b a
bytes-swap a b = same_from_decides {P = a ≡ b} (bytes_eq a b) (bytes_eq b a) (bytes_eq-Decides a b)
    (λ e. sym ((bytes_eq-Decides b a).0 e), λ e. (bytes_eq-Decides b a).1 (sym e))

algebra : (b h f k : Bool)
    → (not (cond b true h) && (f && not k)) ≡ ((not h && f) && not (b || k))
algebra true true f k = refl
algebra true false true k = refl
algebra true false false k = refl
algebra false true f k = refl
algebra false false f k = refl

module _ {I : Type 0} (key : I → List ℕ) where
  none-seen : (set : BTreeSet (Bor (List ℕ))) → set.keys ≡ [] → (items : List I)
      → are_fresh key set items ≡ true
  none-seen set e [] = refl
  none-seen set e (i ∷ items) =
      let none : has_octets set (key i) ≡ false =
      subst (λ (ks : List (Bor (List ℕ))). has_octets (record { keys = ks }) (key i) ≡ false)
      (sym e)
      refl in
      rw none (none-seen set e items)

  pub seen-none : (set : BTreeSet (Bor (List ℕ))) (all : List I) → set.keys ≡ []
      → SeenSoFar key all set all
  seen-none set all e = record { left = rw (none-seen set e all) refl }

  pub seen-again : (all rest : List I) (set : BTreeSet (Bor (List ℕ))) (x : I) (r : List I)
      (q : List ℕ) → SeenSoFar key all set rest → rest ≡ x ∷ r → q ≡ key x
      → has_octets set q ≡ true → are_distinct key all ≡ false
  seen-again all rest set x r q s e is there =
      let at : has_octets set (key x) ≡ true =
      subst (λ (t : List ℕ). has_octets set t ≡ true) is there in
      s.left ∙ rw e (rw at refl)

  module _ (set new : BTreeSet (Bor (List ℕ))) (k : Bor (List ℕ))
      (u : Updates order set new k true) where
    has-new : (q : List ℕ)
        → has_octets new q ≡ cond (bytes_eq k.now q) true (has_octets set q)
    has-new q = u.0 (slice q)
        ∙ ap (λ (t : Bool). cond t true (has_octets set q)) (is_eq-slice_cmp k.now q)

    fresh-new : (items : List I)
        → are_fresh key new items ≡ (are_fresh key set items && not (has_key key k.now items))
    fresh-new [] = refl
    fresh-new (i ∷ items) =
        let first : not (has_octets new (key i))
        ≡ not (cond (bytes_eq (key i) k.now) true (has_octets set (key i))) =
        ap not (has-new (key i) ∙ ap (λ (t : Bool). cond t true (has_octets set (key i)))
        (bytes-swap k.now (key i))) in
        rw (first, fresh-new items)
        (algebra (bytes_eq (key i) k.now) (has_octets set (key i)) (are_fresh key set items)
        (has_key key k.now items))

    assoc : (f h d : Bool) → (f && (not h && d)) ≡ ((f && not h) && d)
    assoc true h d = refl
    assoc false h d = refl

    pub seen-more : (all rest : List I) (x : I) (r : List I) → SeenSoFar key all set rest
        → rest ≡ x ∷ r → k.now ≡ key x → has_octets set k.now ≡ false → SeenSoFar key all new r
    unfolding are_distinct
    seen-more all rest x r s e is fresh =
        let at : has_octets set (key x) ≡ false =
        subst (λ (t : List ℕ). has_octets set t ≡ false) is fresh in
        let begun : are_distinct key all
        ≡ (are_fresh key set r && (not (has_key key (key x) r) && are_distinct key r)) =
        s.left ∙ rw e (rw at refl) in
        record {
          left = begun ∙ assoc (are_fresh key set r) (has_key key (key x) r) (are_distinct key r)
              ∙ ap (λ (t : List ℕ).
              ((are_fresh key set r && not (has_key key t r)) && are_distinct key r)) (sym is)
              ∙ ap (λ (t : Bool). t && are_distinct key r) (sym (fresh-new r));
        }

  pub seen_all : (all rest : List I) (set : BTreeSet (Bor (List ℕ))) → SeenSoFar key all set rest
      → rest ≡ [] → are_distinct key all ≡ true
  unfolding are_distinct
  seen_all all rest set s e = s.left ∙ rw e refl
