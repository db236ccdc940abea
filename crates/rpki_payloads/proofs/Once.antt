-- Rows of payloads, each once.
use Rattle.std.proofs.Common.{◌≡◌, ◌↔◌, ◌⊎◌, inl, inr, ℕ, Bool, true, false, not, List, ◌++◌, map}
use Rattle.std.proofs.Common.{Contains, refl, sym, ap, subst, ◌∙◌, filter}
use Rattle.std.specs.BTreeMap.{BTreeMap, IsOrdered, get}
use Rattle.std.specs.Cmp.{IsTotalOrder}
use Rattle.std.specs.List.{IsDistinct, flat_map}
use Rattle.std.specs.Map.{keys_of}
use Rattle.std.specs.Ordering.{eq_by_cmp, nat_cmp, ordering_then}
use Rattle.std.specs.Prelude.{Some}
use Rattle.std.specs.declared.cmp.Ordering.{Ordering}
use Rattle.std.proofs.lemmas.Bool.{not_from_false, true≢false}
use Rattle.std.proofs.lemmas.Cmp.{nat_cmp_total, on_total, then_total}
use Rattle.std.proofs.lemmas.List.Elements.{Contains-append_cases, Contains-append_left}
use Rattle.std.proofs.lemmas.List.Elements.{Contains-append_right}
use Rattle.std.proofs.lemmas.Map.Keys.{IsDistinct-from_sorted}
use Rattle.std.proofs.lemmas.Map.Lookups.{CmpEqualImpliesEq, exact_pairs, exact_unsigned}
use Rattle.std.proofs.lemmas.Map.Made.{IsDistinct-keys_filter}
use Rattle.std.proofs.lemmas.Map.Views.{btree_map_get_iff}
use Rattle.rpki_relying_party.specs.Orders.{origin_order, provider_order}
use Rattle.rpki_relying_party.specs.declared.payload.Held.{Held}
use Rattle.rpki_relying_party.specs.declared.payload.Origin.{Origin}
use Rattle.rpki_relying_party.specs.declared.payload.Provider.{Provider}
use Rattle.rpki_payloads.specs.Formats.Row.{OriginRow, ProviderRow}
use Rattle.rpki_payloads.specs.Formats.Rows.{IsAddedOrigin, IsAddedProvider, IsKeptOrigin}
use Rattle.rpki_payloads.specs.Formats.Rows.{IsKeptProvider, IsSaidOrigin, IsSaidProvider}
use Rattle.rpki_payloads.specs.Formats.Rows.{added_origins, added_providers, asserted_provider}
use Rattle.rpki_payloads.specs.Formats.Rows.{asserted_row, kept_origins, kept_providers}
use Rattle.rpki_payloads.specs.Formats.Rows.{origin_row, said_origins, provider_row}
use Rattle.rpki_payloads.specs.Formats.Rows.{said_providers, providers_of_assertion}
use Rattle.rpki_payloads.specs.Found.{FoundUnder}
use Rattle.rpki_payloads.specs.Printed.{AreEachOnce}
use Rattle.rpki_payloads.specs.Slurm.{asserted, drops_origin, drops_provider, provider_of}
use Rattle.rpki_payloads.specs.declared.slurm.text.AspaAssertion.{AspaAssertion}
use Rattle.rpki_payloads.specs.declared.slurm.text.Exceptions.{Exceptions}
use Rattle.rpki_payloads.specs.declared.slurm.text.PrefixAssertion.{PrefixAssertion}
use Rattle.rpki_payloads.proofs.Elements.{filtered, from-filtered, from-gathered, from-mapped}
use Rattle.rpki_payloads.proofs.Elements.{gathered, keys-kept, mapped}

-- ---- the two orders

pub origin-total : IsTotalOrder origin_order
origin-total =
    then_total (on_total (λ (o : Origin). o.family) nat_cmp_total)
    (then_total (on_total (λ (o : Origin). o.addr) nat_cmp_total)
    (then_total (on_total (λ (o : Origin). o.len) nat_cmp_total)
    (then_total (on_total (λ (o : Origin). o.max_len) nat_cmp_total)
    (on_total (λ (o : Origin). o.asn) nat_cmp_total))))

pub provider-total : IsTotalOrder provider_order
provider-total =
    then_total (on_total (λ (p : Provider). p.customer) nat_cmp_total)
    (on_total (λ (p : Provider). p.provider) nat_cmp_total)

abbrev Numbers : Type 0
Numbers = ℕ × (ℕ × (ℕ × (ℕ × ℕ)))

abbrev numbers : Origin → Numbers
numbers o = (o.family, (o.addr, (o.len, (o.max_len, o.asn))))

abbrev of-numbers : Numbers → Origin
of-numbers n = record {
  family = n.0;
  addr = n.1.0;
  len = n.1.1.0;
  max_len = n.1.1.1.0;
  asn = n.1.1.1.1;
}

exact-three : CmpEqualImpliesEq (λ (x y : ℕ × (ℕ × ℕ)). ordering_then (nat_cmp x.0 y.0)
    (ordering_then (nat_cmp x.1.0 y.1.0) (nat_cmp x.1.1 y.1.1)))
exact-three = exact_pairs nat_cmp (λ (x y : ℕ × ℕ). ordering_then (nat_cmp x.0 y.0)
    (nat_cmp x.1 y.1)) exact_unsigned (exact_pairs nat_cmp nat_cmp exact_unsigned exact_unsigned)

exact-four : CmpEqualImpliesEq (λ (x y : ℕ × (ℕ × (ℕ × ℕ))). ordering_then (nat_cmp x.0 y.0)
    (ordering_then (nat_cmp x.1.0 y.1.0) (ordering_then (nat_cmp x.1.1.0 y.1.1.0)
    (nat_cmp x.1.1.1 y.1.1.1))))
exact-four = exact_pairs nat_cmp (λ (x y : ℕ × (ℕ × ℕ)). ordering_then (nat_cmp x.0 y.0)
    (ordering_then (nat_cmp x.1.0 y.1.0) (nat_cmp x.1.1 y.1.1))) exact_unsigned exact-three

pub origin-exact : CmpEqualImpliesEq origin_order
origin-exact a b e =
    ap of-numbers (exact_pairs nat_cmp (λ (x y : ℕ × (ℕ × (ℕ × ℕ))).
    ordering_then (nat_cmp x.0 y.0) (ordering_then (nat_cmp x.1.0 y.1.0)
    (ordering_then (nat_cmp x.1.1.0 y.1.1.0) (nat_cmp x.1.1.1 y.1.1.1))))
    exact_unsigned exact-four (numbers a) (numbers b) e)

pub provider-exact : CmpEqualImpliesEq provider_order
provider-exact a b e =
    ap (λ (n : ℕ × ℕ). record { customer = n.0; provider = n.1 })
    (exact_pairs nat_cmp nat_cmp exact_unsigned exact_unsigned (a.customer, a.provider)
    (b.customer, b.provider) e)

-- ---- rows of the entries of a map that pass a test

module _ {K R : Type 0} {cmp : K → K → Ordering} (o : IsTotalOrder cmp)
    (exact : CmpEqualImpliesEq cmp) (m : BTreeMap K Held) (sorted : IsOrdered cmp m)
    (row : K × Held → R) (key : R → K) (is : (e : K × Held) → key (row e) ≡ e.0)
    (drops : K → Bool) where
  abbrev Kept : R → Type 0
  Kept r = (h : Held) × (get cmp m (key r) ≡ Some h) × (r ≡ row (key r, h))
      × (drops (key r) ≡ false)

  abbrev rows : List R
  rows = filter (λ r. not (drops (key r))) (map row m.entries)

  to-kept : (r : R) → Contains rows r → Kept r
  to-kept r h =
      let passed = from-filtered (λ r. not (drops (key r))) (map row m.entries) r h in
      let w = from-mapped row m.entries r passed.0 in
      let same : key r ≡ w.0.0 = ap key w.2 ∙ is w.0 in (
        w.0.1,
        (btree_map_get_iff o exact m sorted (key r) w.0.1).1
            (subst (λ (k : K). Contains m.entries (k, w.0.1)) (sym same) w.1),
        w.2 ∙ ap (λ (k : K). row (k, w.0.1)) (sym same),
        stays (drops (key r)) passed.1,
      )
    where
      stays : (b : Bool) → not b ≡ true → b ≡ false
      stays true e = absurd (true≢false (sym e))
      stays false e = refl

  from-kept : (r : R) → Kept r → Contains rows r
  from-kept r k =
      filtered (λ r. not (drops (key r))) (map row m.entries) r
      (subst (λ (x : R). Contains (map row m.entries) x) (sym k.2)
      (mapped row m.entries (key r, k.0)
      ((btree_map_get_iff o exact m sorted (key r) k.0).0 k.1)))
      (not_from_false (drops (key r)) k.3)

  pub each-once : AreEachOnce Kept (eq_by_cmp cmp) key rows
  each-once = record {
    each = λ r. (to-kept r, from-kept r);
    once = subst (λ (ks : List K). IsDistinct (eq_by_cmp cmp) ks)
        (sym (keys-kept row key is (λ r. not (drops (key r))) m.entries))
        (IsDistinct-keys_filter (eq_by_cmp cmp) (λ e. not (drops (key (row e)))) m.entries
        (IsDistinct-from_sorted cmp (keys_of m.entries) sorted));
  }

pub origins-once : (exceptions : List Exceptions) (f : FoundUnder)
    → AreEachOnce (IsKeptOrigin exceptions f) (eq_by_cmp origin_order)
    (λ (r : OriginRow). r.origin) (kept_origins exceptions f)
origins-once exceptions f =
    each-once origin-total origin-exact f.found.payloads.origins
    f.found.payloads.origins_in_order (origin_row f.name) (λ (r : OriginRow). r.origin)
    (λ e. refl) (drops_origin exceptions)

pub providers-once : (exceptions : List Exceptions) (f : FoundUnder)
    → AreEachOnce (IsKeptProvider exceptions f) (eq_by_cmp provider_order)
    (λ (r : ProviderRow). r.provider) (kept_providers exceptions f)
providers-once exceptions f =
    each-once provider-total provider-exact f.found.payloads.providers
    f.found.payloads.providers_in_order (provider_row f.name) (λ (r : ProviderRow). r.provider)
    (λ e. refl) (drops_provider exceptions)

-- ---- all that is said

-- the rows of two lists of lists, which are of the one kind or of the other
either : {F E R : Type 0} (kept : F → List R) (added : E → List R) (fs : List F) (es : List E)
    (P : F → Type 0) (Q : Type 0) (r : R) → ((f : F) → Contains (kept f) r ↔ P f)
    → ((e : E) → Contains es e → Contains (added e) r → Q)
    → (Q → (e : E) × Contains es e × Contains (added e) r)
    → Contains (flat_map kept fs ++ flat_map added es) r
    ↔ (((f : F) × Contains fs f × P f) ⊎ Q)
either {F} {E} {R} kept added fs es P Q r one two three = (to, from)
  where
    to : Contains (flat_map kept fs ++ flat_map added es) r → ((f : F) × Contains fs f × P f) ⊎ Q
    to h = elim (Contains-append_cases (flat_map kept fs) (flat_map added es) r h) [
      | inl l ↦ inl (let w = from-gathered kept fs r l in (w.0, w.1, (one w.0).0 w.2))
      | inr l ↦ inr (let w = from-gathered added es r l in two w.0 w.1 w.2)
    ]

    from : ((f : F) × Contains fs f × P f) ⊎ Q
        → Contains (flat_map kept fs ++ flat_map added es) r
    from (inl w) = Contains-append_left (flat_map kept fs) (flat_map added es) r
        (gathered kept fs w.0 r w.1 ((one w.0).1 w.2))
    from (inr q) = let w = three q in
        Contains-append_right (flat_map kept fs) (flat_map added es) r
        (gathered added es w.0 r w.1 w.2)

pub origins-said : (exceptions : List Exceptions) (found : List FoundUnder) (r : OriginRow)
    → Contains (said_origins exceptions found) r ↔ IsSaidOrigin exceptions found r
origins-said exceptions found r =
    either (kept_origins exceptions) added_origins found exceptions
    (λ f. IsKeptOrigin exceptions f r) (IsAddedOrigin exceptions r) r
    (λ f. (origins-once exceptions f).each r) two three
  where
    two : (e : Exceptions) → Contains exceptions e → Contains (added_origins e) r
        → IsAddedOrigin exceptions r
    two e h k =
        let w = from-mapped (λ (a : PrefixAssertion). asserted_row (asserted a))
        e.assertions.prefix_assertions.items r k in
        (e, w.0, h, w.1, w.2)

    three : IsAddedOrigin exceptions r
        → (e : Exceptions) × Contains exceptions e × Contains (added_origins e) r
    three q = (
      q.0,
      q.2,
      subst (λ (x : OriginRow). Contains (added_origins q.0) x) (sym q.4)
          (mapped (λ (a : PrefixAssertion). asserted_row (asserted a))
          q.0.assertions.prefix_assertions.items q.1 q.3),
    )

-- the rows of one assertion of providers
of-assertion : (a : AspaAssertion) (r : ProviderRow) → Contains (providers_of_assertion a) r
    → (n : ℕ) × Contains a.provider_asns.items n
    × (r ≡ asserted_provider (provider_of a.customer_asn n))
of-assertion a r h =
    let w = from-mapped asserted_provider
    (map (provider_of a.customer_asn) a.provider_asns.items) r h in
    let v = from-mapped (provider_of a.customer_asn) a.provider_asns.items w.0 w.1 in
    (v.0, v.1, w.2 ∙ ap asserted_provider v.2)

pub providers-said : (exceptions : List Exceptions) (found : List FoundUnder) (r : ProviderRow)
    → Contains (said_providers exceptions found) r ↔ IsSaidProvider exceptions found r
providers-said exceptions found r =
    either (kept_providers exceptions) added_providers found exceptions
    (λ f. IsKeptProvider exceptions f r) (IsAddedProvider exceptions r) r
    (λ f. (providers-once exceptions f).each r) two three
  where
    two : (e : Exceptions) → Contains exceptions e → Contains (added_providers e) r
        → IsAddedProvider exceptions r
    two e h k =
        let w = from-gathered providers_of_assertion e.assertions.aspa_assertions.items r k in
        let v = of-assertion w.0 r w.2 in
        (e, w.0, v.0, h, w.1, v.1, v.2)

    three : IsAddedProvider exceptions r
        → (e : Exceptions) × Contains exceptions e × Contains (added_providers e) r
    three q = (
      q.0,
      q.3,
      gathered providers_of_assertion q.0.assertions.aspa_assertions.items q.1 r q.4
          (subst (λ (x : ProviderRow). Contains (providers_of_assertion q.1) x) (sym q.6)
          (mapped asserted_provider (map (provider_of q.1.customer_asn) q.1.provider_asns.items)
          (provider_of q.1.customer_asn q.2)
          (mapped (provider_of q.1.customer_asn) q.1.provider_asns.items q.2 q.5))),
    )
