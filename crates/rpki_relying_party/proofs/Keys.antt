-- A key is put to keys.
use Rattle.std.proofs.Common.{◌≡◌, ◌⊎◌, inl, inr, ℕ, List, [], ◌∷◌, Bool, true, false, Vec, refl}
use Rattle.std.proofs.Common.{sym, ap, ◌∙◌, subst}
use Rattle.std.specs.Prelude.{◌↔◌, IsTrue, not, ◌||◌}
use Rattle.std.specs.List.{list_any}
use Rattle.std.proofs.lemmas.Bool.{true≢false}
use Rattle.std.proofs.lemmas.Cmp.{nat_list_cmp_total, tied_itself}
use Rattle.std.proofs.lemmas.Map.Lookups.{exact_bytes}
use Rattle.std.specs.declared.alloc.Global.{Global}
use Rattle.std.specs.declared.cmp.Ordering.{Ordering}
use Rattle.std.specs.declared.cmp.Ordering.TheVariants.{Less, Equal, Greater}
use Rattle.std.specs.BTreeMap.{is_at}
use Rattle.std.specs.BTreeSet.{BTreeSet, insert_key}
use Rattle.std.specs.Cmp.{Equal-is}
use Rattle.std.specs.Cmp.Lexicographic.{slice_cmp}
use Rattle.std.specs.Ordering.{is_eq, match_ordering, nat_cmp}
use Rattle.rpki_relying_party.specs.Steps.{has_key, IsPut}

-- whether a key has these octets
abbrev has : List ℕ → Vec ℕ Global → Bool
has octets key = is_at (λ (k : Vec ℕ Global). slice_cmp nat_cmp octets k.items) key

abbrev order : Vec ℕ Global → Vec ℕ Global → Ordering
order x y = slice_cmp nat_cmp x.items y.items

pub same-if : (a b : List ℕ) → is_eq (slice_cmp nat_cmp a b) ≡ true → a ≡ b
same-if a b e = exact_bytes a b ((Equal-is (slice_cmp nat_cmp a b)).0 e)

itself : (a : List ℕ) → is_eq (slice_cmp nat_cmp a a) ≡ true
itself a = ap is_eq (tied_itself nat_list_cmp_total a)

same-or-not : (a b : List ℕ) → (a ≡ b) ⊎ ¬ (a ≡ b)
same-or-not a b = go (is_eq (slice_cmp nat_cmp a b)) refl
  where
    go : (t : Bool) → is_eq (slice_cmp nat_cmp a b) ≡ t → (a ≡ b) ⊎ ¬ (a ≡ b)
    go true e = inl (same-if a b e)
    go false e = inr (λ s. true≢false (sym (itself b)
        ∙ subst (λ (x : List ℕ). is_eq (slice_cmp nat_cmp x b) ≡ false) s e))

module _ (key : Vec ℕ Global) where
  -- the key is there then
  here : (ks : List (Vec ℕ Global)) → list_any (has key.items) (insert_key order ks key) ≡ true
  here [] = ap (λ b. b || false) (itself key.items)
  here (x ∷ xs) = by (order key x) refl (here xs)
    where
      by : (r : Ordering) → order key x ≡ r
          → list_any (has key.items) (insert_key order xs key) ≡ true
          → list_any (has key.items) (match_ordering r (key ∷ x ∷ xs) (x ∷ xs)
          (x ∷ insert_key order xs key)) ≡ true
      by Less f later = ap (λ b. b || list_any (has key.items) (x ∷ xs)) (itself key.items)
      by Equal f later = ap (λ b. b || list_any (has key.items) xs) (ap is_eq f)
      by Greater f later =
          ap (λ b. b || list_any (has key.items) (insert_key order xs key)) (ap is_eq f) ∙ later

  module _ (other : List ℕ) (differs : ¬ (other ≡ key.items)) where
    apart : (b : Bool) → has other key ≡ b → b ≡ false
    apart true e = absurd (differs (same-if other key.items e))
    apart false e = refl

    no : has other key ≡ false
    no = apart (has other key) refl

    -- of other octets nothing changes
    else-same : (ks : List (Vec ℕ Global))
        → list_any (has other) (insert_key order ks key) ≡ list_any (has other) ks
    else-same [] = ap (λ b. b || false) no
    else-same (x ∷ xs) = by (order key x) refl (else-same xs)
      where
        by : (r : Ordering) → order key x ≡ r
            → list_any (has other) (insert_key order xs key) ≡ list_any (has other) xs
            → list_any (has other) (match_ordering r (key ∷ x ∷ xs) (x ∷ xs)
            (x ∷ insert_key order xs key)) ≡ list_any (has other) (x ∷ xs)
        by Less f later = ap (λ b. b || list_any (has other) (x ∷ xs)) no
        by Equal f later = refl
        by Greater f later = ap (λ b. has other x || b) later

-- no key is among none
pub none-has : (keys : BTreeSet (Vec ℕ Global)) → keys.keys ≡ [] → (k : List ℕ)
    → ¬ IsTrue (has_key keys k)
none-has keys e k t = true≢false
    (sym t ∙ ap (λ (ks : List (Vec ℕ Global)). list_any (has k) ks) e)

is-fresh : (b fresh : Bool) → fresh ≡ not b → IsTrue fresh ↔ (¬ IsTrue b)
is-fresh true fresh e = (λ t. absurd (true≢false (sym t ∙ e)), λ h. absurd (h refl))
is-fresh false fresh e = (λ t f. true≢false (sym f), λ h. e)

pub is-put : (key : Vec ℕ Global) (old new : BTreeSet (Vec ℕ Global)) (fresh : Bool)
    → fresh ≡ not (has_key old key.items) → new.keys ≡ insert_key order old.keys key
    → IsPut key.items (has_key old) (has_key new) fresh
is-put key old new fresh e f = record {
  was = is-fresh (has_key old key.items) fresh e;
  now = λ k. (
    λ t. to k t (same-or-not k key.items),
    λ h. elim h [
      | inl o ↦ back k o (same-or-not k key.items)
      | inr s ↦ there k s
    ],
  );
}
  where
    there : (k : List ℕ) → k ≡ key.items → IsTrue (has_key new k)
    there k s = subst (λ (j : List ℕ). IsTrue (has_key new j)) (sym s)
        (ap (λ (ks : List (Vec ℕ Global)). list_any (has key.items) ks) f ∙ here key old.keys)

    other : (k : List ℕ) → ¬ (k ≡ key.items) → has_key new k ≡ has_key old k
    other k n = ap (λ (ks : List (Vec ℕ Global)). list_any (has k) ks) f
        ∙ else-same key k n old.keys

    to : (k : List ℕ) → IsTrue (has_key new k) → ((k ≡ key.items) ⊎ ¬ (k ≡ key.items))
        → IsTrue (has_key old k) ⊎ (k ≡ key.items)
    to k t (inl s) = inr s
    to k t (inr n) = inl (sym (other k n) ∙ t)

    back : (k : List ℕ) → IsTrue (has_key old k) → ((k ≡ key.items) ⊎ ¬ (k ≡ key.items))
        → IsTrue (has_key new k)
    back k o (inl s) = there k s
    back k o (inr n) = other k n ∙ o
