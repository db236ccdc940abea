-- Providers side by side, in groups.
use Rattle.std.proofs.Common.{◌≡◌, ◌≢◌, ℕ, Bool, true, false, cond, not, List, [], ◌∷◌, ◌++◌, All}
use Rattle.std.proofs.Common.{refl, sym, ap, subst, ◌∙◌, append_assoc, append-nil, map, ◌<◌, ◌≤◌}
use Rattle.std.proofs.Common.{◌==◌, inl, inr, arith}
use Rattle.std.specs.List.Sorted.{IsStrictlySortedBy}
use Rattle.std.specs.Ordering.{nat_cmp, ordering_then}
use Rattle.std.specs.Prelude.{nat_lt}
use Rattle.std.specs.declared.cmp.Ordering.{Ordering}
use Rattle.std.specs.declared.cmp.Ordering.TheVariants.{Equal, Greater, Less}
use Rattle.std.specs.List.{flat_map}
use Rattle.std.proofs.lemmas.Bool.{cases_lt, lt-ltb, ltb-true, true≢false}
use Rattle.std.proofs.lemmas.List.Elements.{All-append, All-cons, All-contains, All-nil, All-tail}
use Rattle.std.proofs.lemmas.List.Elements.{All-weaker, Contains-push, recursion_from_All}
use Rattle.std.proofs.lemmas.Cmp.{nat_eq_equiv}
use Rattle.std.proofs.lemmas.Map.Keys.{sorted_head, sorted_tail}
use Rattle.std.proofs.lemmas.Map.Views.{exact_unsigned_eq}
use Rattle.rpki_payloads.specs.Formats.Groups.{IsOfOneCustomer, customer_of, groups}
use Rattle.rpki_payloads.specs.Formats.Groups.{groups_after, same_customer}
use Rattle.rpki_payloads.specs.Formats.Row.{ProviderRow, provider_payload}
use Rattle.rpki_relying_party.specs.Orders.{provider_order}

abbrev together : List (List ProviderRow) → List ProviderRow
together gs = flat_map (λ (g : List ProviderRow). g) gs

-- the groups have all of the rows, where one has begun
in-groups : (begun rest : List ProviderRow) (r : ProviderRow)
    → together (groups_after begun (r ∷ rest)) ≡ begun ++ r ∷ rest
in-groups begun [] r = append-nil (begun ++ r ∷ [])
in-groups begun (s ∷ rest) r =
    by (in-groups (begun ++ r ∷ []) rest s) (in-groups [] rest s) (same_customer r s)
  where
    by : together (groups_after (begun ++ r ∷ []) (s ∷ rest)) ≡ (begun ++ r ∷ []) ++ s ∷ rest
        → together (groups_after [] (s ∷ rest)) ≡ s ∷ rest → (b : Bool)
        → together (cond (not b) ((begun ++ r ∷ []) ∷ groups_after [] (s ∷ rest))
        (groups_after (begun ++ r ∷ []) (s ∷ rest))) ≡ begun ++ r ∷ s ∷ rest
    by more none true = more ∙ append_assoc begun (r ∷ []) (s ∷ rest)
    by more none false = ap (λ z. (begun ++ r ∷ []) ++ z) none
        ∙ append_assoc begun (r ∷ []) (s ∷ rest)

pub all-in-groups : (rows : List ProviderRow) → together (groups rows) ≡ rows
all-in-groups [] = refl
all-in-groups (r ∷ rows) = in-groups [] rows r

-- ---- of one customer

abbrev IsLike : ProviderRow → ProviderRow → Type 0
IsLike r s = s.provider.customer ≡ r.provider.customer

alike : (r s : ProviderRow) → same_customer r s ≡ true → IsLike r s
alike r s e = sym (exact_unsigned_eq r.provider.customer s.provider.customer e)

-- a group of rows that are like its first
one-group : (r : ProviderRow) (rs : List ProviderRow) → All (IsLike r) rs
    → IsOfOneCustomer (r ∷ rs)
one-group r rs h = record {
  some = λ e. not-none e;
  each = All-cons (IsLike r) r rs refl h;
}
  where
    not-none : r ∷ rs ≡ [] → ⊥
    not-none e = cc

chain : (q r s : ProviderRow) → IsLike q r → IsLike r s → IsLike q s
chain q r s h k = k ∙ h

-- a group that has a row more, which is like its last
grow : (g : List ProviderRow) (r s : ProviderRow) → IsOfOneCustomer (g ++ r ∷ []) → IsLike r s
    → IsOfOneCustomer ((g ++ r ∷ []) ++ s ∷ [])
grow [] r s h k = one-group r (s ∷ []) (All-cons (IsLike r) s [] k (All-nil (IsLike r)))
grow (x ∷ xs) r s h k =
    let others = All-tail (IsLike x) x (xs ++ r ∷ []) h.each in
    let last = All-contains (IsLike x) (xs ++ r ∷ []) r others (Contains-push xs r) in
    one-group x ((xs ++ r ∷ []) ++ s ∷ [])
    (All-append (IsLike x) (xs ++ r ∷ []) (s ∷ []) others
    (All-cons (IsLike x) s [] (chain x r s last k) (All-nil (IsLike x))))

of-one : (begun rest : List ProviderRow) (r : ProviderRow) → IsOfOneCustomer (begun ++ r ∷ [])
    → All IsOfOneCustomer (groups_after begun (r ∷ rest))
of-one begun [] r h =
    All-cons IsOfOneCustomer (begun ++ r ∷ []) [] h (All-nil IsOfOneCustomer)
of-one begun (s ∷ rest) r h =
    by (λ g k. of-one g rest s k) (same_customer r s) refl
  where
    by : ((g : List ProviderRow) → IsOfOneCustomer (g ++ s ∷ [])
        → All IsOfOneCustomer (groups_after g (s ∷ rest)))
        → (b : Bool) → same_customer r s ≡ b
        → All IsOfOneCustomer (cond (not b) ((begun ++ r ∷ []) ∷ groups_after [] (s ∷ rest))
        (groups_after (begun ++ r ∷ []) (s ∷ rest)))
    by others true e = others (begun ++ r ∷ []) (grow begun r s h (alike r s e))
    by others false e =
        All-cons IsOfOneCustomer (begun ++ r ∷ []) (groups_after [] (s ∷ rest)) h
        (others [] (one-group s [] (All-nil (IsLike s))))

pub of-one-customer : (rows : List ProviderRow) → All IsOfOneCustomer (groups rows)
of-one-customer [] = All-nil IsOfOneCustomer
of-one-customer (r ∷ rows) = of-one [] rows r (one-group r [] (All-nil (IsLike r)))

-- ---- each customer once

abbrev customer : ProviderRow → ℕ
customer r = r.provider.customer

abbrev Ascend : List ProviderRow → Type 0
Ascend rows = IsStrictlySortedBy provider_order (map provider_payload rows)

abbrev customers : List (List ProviderRow) → List ℕ
customers gs = map customer_of gs

-- of two providers in their order the first one's customer is not the greater
not-greater : (x y : ℕ) (c : Ordering) → ordering_then (nat_cmp x y) c ≡ Less → x ≤ y
not-greater x y c e = by (nat_lt x y) refl e
  where
    even : (t : Bool) → (x == y) ≡ t → ordering_then (cond t Equal Greater) c ≡ Less → x ≤ y
    even true t e = let s = exact_unsigned_eq x y t in omega (arith, s)
    even false t e = absurd cc

    by : (t : Bool) → nat_lt x y ≡ t
        → ordering_then (cond t Less (cond (x == y) Equal Greater)) c ≡ Less → x ≤ y
    by true t e = let l = ltb-true x y t in omega (arith, l)
    by false t e = even (x == y) refl e

greater-unless : (x y : ℕ) → x ≤ y → (x == y) ≡ false → x < y
greater-unless x y l e = elim (cases_lt x y) [
  | inl h ↦ h
  | inr h ↦ absurd (true≢false (sym (nat_eq_equiv.refl x)
      ∙ subst (λ (z : ℕ). (x == z) ≡ false) (sym (even x y l h)) e))
]
  where
    even : (a b : ℕ) → a ≤ b → b ≤ a → a ≡ b
    even a b p q = omega (arith, p, q)

less : (x y : ℕ) → x < y → nat_cmp x y ≡ Less
less x y l = ap (λ (t : Bool). cond t Less (cond (x == y) Equal Greater)) (lt-ltb x y l)

sorted-none : IsStrictlySortedBy nat_cmp []
unfolding IsStrictlySortedBy
sorted-none = tt

sorted-more : (x : ℕ) (xs : List ℕ) → All (λ y. x < y) xs → IsStrictlySortedBy nat_cmp xs
    → IsStrictlySortedBy nat_cmp (x ∷ xs)
unfolding IsStrictlySortedBy
sorted-more x xs h s = (
  recursion_from_All (λ y. nat_cmp x y ≡ Less) xs
      (All-weaker (λ y. x < y) (λ y. nat_cmp x y ≡ Less) (λ y l. less x y l) xs h),
  s,
)

between : (x y z : ℕ) → x < y → y < z → x < z
between x y z p q = omega (arith, p, q)

-- the customers of groups, the first of which is that of this row: they ascend
record Climbs (r : ProviderRow) (gs : List (List ProviderRow)) : Type 0 where
  others : List ℕ
  are : customers gs ≡ customer r ∷ others
  above : All (λ c. customer r < c) others
  ascend : IsStrictlySortedBy nat_cmp others

-- the customer of a group that has begun stays
stays : (begun : List ProviderRow) (r s : ProviderRow)
    → customer_of ((begun ++ r ∷ []) ++ s ∷ []) ≡ customer_of (begun ++ r ∷ [])
stays [] r s = refl
stays (x ∷ xs) r s = refl

same-climb : (r s : ProviderRow) (gs : List (List ProviderRow)) → customer s ≡ customer r
    → Climbs s gs → Climbs r gs
same-climb r s gs e w = record {
  others = w.others;
  are = w.are ∙ ap (λ (c : ℕ). c ∷ w.others) e;
  above = subst (λ (x : ℕ). All (λ c. x < c) w.others) e w.above;
  ascend = w.ascend;
}

climb : (begun rest : List ProviderRow) (r : ProviderRow) → Ascend (r ∷ rest)
    → customer_of (begun ++ r ∷ []) ≡ customer r → Climbs r (groups_after begun (r ∷ rest))
climb begun [] r h e = record {
  others = [];
  are = ap (λ (c : ℕ). c ∷ []) e;
  above = All-nil (λ c. customer r < c);
  ascend = sorted-none;
}
climb begun (s ∷ rest) r h e =
    by (λ g k f. climb g rest s k f) (same_customer r s) refl
  where
    tail : Ascend (s ∷ rest)
    tail = sorted_tail provider_order (provider_payload r) (map provider_payload (s ∷ rest)) h

    first-less : provider_order r.provider s.provider ≡ Less
    first-less =
        (sorted_head provider_order (provider_payload r) (map provider_payload (s ∷ rest)) h).0

    by : ((g : List ProviderRow) → Ascend (s ∷ rest)
        → customer_of (g ++ s ∷ []) ≡ customer s → Climbs s (groups_after g (s ∷ rest)))
        → (b : Bool) → same_customer r s ≡ b
        → Climbs r (cond (not b) ((begun ++ r ∷ []) ∷ groups_after [] (s ∷ rest))
        (groups_after (begun ++ r ∷ []) (s ∷ rest)))
    by others true t = same-climb r s (groups_after (begun ++ r ∷ []) (s ∷ rest)) (alike r s t)
        (others (begun ++ r ∷ []) tail (stays begun r s ∙ e ∙ sym (alike r s t)))
    by others false t =
        let w = others [] tail refl in
        let l = greater-unless (customer r) (customer s)
        (not-greater (customer r) (customer s)
        (nat_cmp r.provider.provider s.provider.provider) first-less) t in
        record {
          others = customer s ∷ w.others;
          are = λ i. e i ∷ w.are i;
          above = All-cons (λ c. customer r < c) (customer s) w.others l
              (All-weaker (λ c. customer s < c) (λ c. customer r < c)
              (λ c m. between (customer r) (customer s) c l m) w.others w.above);
          ascend = sorted-more (customer s) w.others w.above w.ascend;
        }

pub customers-once : (rows : List ProviderRow) → Ascend rows
    → IsStrictlySortedBy nat_cmp (customers (groups rows))
customers-once [] h = sorted-none
customers-once (r ∷ rows) h =
    let w = climb [] rows r h refl in
    subst (λ (cs : List ℕ). IsStrictlySortedBy nat_cmp cs) (sym w.are)
    (sorted-more (customer r) w.others w.above w.ascend)
