-- What is kept of what is found.
use Rattle.std.proofs.Common.{◌≡◌, ◌≤◌, ◌⊎◌, inl, inr, ℕ, List, Bool, true, false, cond, Option}
use Rattle.std.proofs.Common.{None, Some, refl, sym, ap, ◌∙◌, subst, arith, ltb, [], ◌∷◌, ◌++◌}
use Rattle.std.proofs.Common.{get_or, Contains}
use Rattle.std.proofs.lemmas.List.Elements.{All-push, Contains-push, Contains-append_left}
use Rattle.std.specs.Prelude.{nat_lt, Result, Ok, Err, OnOk}
use Rattle.std.specs.BTreeMap.{BTreeMap, get, get_by_text}
use Rattle.std.specs.Map.{update}
use Rattle.std.specs.Str.{bytes_eq}
use Rattle.std.specs.Cmp.{Equal-is}
use Rattle.std.specs.Ordering.{is_eq, nat_cmp, ordering_then}
use Rattle.std.specs.declared.alloc.Global.{Global}
use Rattle.std.specs.declared.cmp.Ordering.{Ordering}
use Rattle.std.specs.declared.cmp.Ordering.TheVariants.{Less, Equal, Greater}
use Rattle.std.specs.declared.string.String.{String}
use Rattle.std.proofs.lemmas.Bool.{true≢false}
use Rattle.std.proofs.lemmas.Cmp.{nat_cmp_total, tied_itself}
use Rattle.std.proofs.lemmas.Map.Lookups.{exact_unsigned}
use Rattle.std.proofs.lemmas.Slice.Eq.{bytes_eq-Decides}
use borrow.Author.Tests.{ltb-true, ltb-false}
use Rattle.rpki_basics.specs.Moment.{stamp}
use Rattle.rpki_relying_party.specs.declared.found.Finding.{Finding}
use Rattle.rpki_relying_party.specs.declared.found.Finding.TheVariants as findings
use Rattle.rpki_relying_party.specs.declared.found.Found.{Found}
use Rattle.rpki_relying_party.specs.declared.found.Refusal.{Refusal}
use Rattle.rpki_relying_party.specs.declared.payload.Held.{Held}
use Rattle.rpki_relying_party.specs.declared.payload.Origin.{Origin}
use Rattle.rpki_relying_party.specs.declared.payload.Payload.{Payload}
use Rattle.rpki_relying_party.specs.declared.payload.Payload.TheVariants as payloads
use Rattle.rpki_relying_party.specs.declared.payloads.Payloads.{Payloads}
use Rattle.rpki_relying_party.specs.declared.payload.Provider.{Provider}
use Rattle.rpki_relying_party.specs.Found.{Lists, HasAsLong, KeepsFinding}
use Rattle.rpki_relying_party.specs.Found.{KeepsFindings}
use Rattle.rpki_relying_party.specs.Orders.{origin_order, provider_order}
use Rattle.rpki_relying_party.specs.Payload.{held_in, ends_before}
use Rattle.rpki_relying_party.specs.Payload.{longer, KeepsLonger, Keeps}
use Rattle.rpki_relying_party.specs.Refusals.{KeepsRefusal, StandAtTheirLines}
use Rattle.rpki_relying_party.specs.Texts.{refusal_line}

-- what holds where memory was there
pub onward : {T E A B : Type 0} (r : Result T E) → (A → B) → OnOk r A → OnOk r B
onward (Ok x) f a = f a
onward (Err e) f a = a

-- ---- the two orders tell all payloads apart

first-equal : (a b : Ordering) → ordering_then a b ≡ Equal → a ≡ Equal
first-equal Less b e = e
first-equal Equal b e = refl
first-equal Greater b e = e

second-equal : (a b : Ordering) → ordering_then a b ≡ Equal → b ≡ Equal
second-equal Less b e = absurd (less-not e)
  where
    less-not : Less ≡ Equal → ⊥
    less-not e = cc
second-equal Equal b e = e
second-equal Greater b e = absurd (greater-not e)
  where
    greater-not : Greater ≡ Equal → ⊥
    greater-not e = cc

number-same : (m n : ℕ) (b : Ordering) → ordering_then (nat_cmp m n) b ≡ Equal → m ≡ n
number-same m n b e = exact_unsigned m n (first-equal (nat_cmp m n) b e)

same-origin : (a b : Origin) → origin_order a b ≡ Equal → a ≡ b
same-origin a b e =
    let asn = nat_cmp a.asn b.asn in
    let max = ordering_then (nat_cmp a.max_len b.max_len) asn in
    let len = ordering_then (nat_cmp a.len b.len) max in
    let addr = ordering_then (nat_cmp a.addr b.addr) len in
    let e1 = second-equal (nat_cmp a.family b.family) addr e in
    let e2 = second-equal (nat_cmp a.addr b.addr) len e1 in
    let e3 = second-equal (nat_cmp a.len b.len) max e2 in
    let e4 = second-equal (nat_cmp a.max_len b.max_len) asn e3 in
    let family = number-same a.family b.family addr e in
    let first = number-same a.addr b.addr len e1 in
    let length = number-same a.len b.len max e2 in
    let most = number-same a.max_len b.max_len asn e3 in
    let number = exact_unsigned a.asn b.asn e4 in λ i. record {
      family = family i;
      addr = first i;
      len = length i;
      max_len = most i;
      asn = number i;
    }

same-provider : (a b : Provider) → provider_order a b ≡ Equal → a ≡ b
same-provider a b e =
    let second = nat_cmp a.provider b.provider in
    let customer = number-same a.customer b.customer second e in
    let provider = exact_unsigned a.provider b.provider
    (second-equal (nat_cmp a.customer b.customer) second e) in
    λ i. record { customer = customer i; provider = provider i }

number-itself : (n : ℕ) → nat_cmp n n ≡ Equal
number-itself n = tied_itself nat_cmp_total n

then-equal : (a b : Ordering) → a ≡ Equal → b ≡ Equal → ordering_then a b ≡ Equal
then-equal a b e f = ap (λ (o : Ordering). ordering_then o b) e ∙ f

origin-itself : (a : Origin) → origin_order a a ≡ Equal
origin-itself a =
    then-equal (nat_cmp a.family a.family) _ (number-itself a.family)
    (then-equal (nat_cmp a.addr a.addr) _ (number-itself a.addr)
    (then-equal (nat_cmp a.len a.len) _ (number-itself a.len)
    (then-equal (nat_cmp a.max_len a.max_len) _ (number-itself a.max_len)
    (number-itself a.asn))))

provider-itself : (a : Provider) → provider_order a a ≡ Equal
provider-itself a =
    then-equal (nat_cmp a.customer a.customer) _ (number-itself a.customer)
    (number-itself a.provider)

-- two that an order tells apart, or not
module _ {K : Type 0} (cmp : K → K → Ordering) (same : (a b : K) → cmp a b ≡ Equal → a ≡ b)
    (itself : (a : K) → cmp a a ≡ Equal) where
  apart : (a b : K) → ¬ (a ≡ b) → is_eq (cmp a b) ≡ false
  apart a b n = go (is_eq (cmp a b)) refl
    where
      go : (t : Bool) → is_eq (cmp a b) ≡ t → t ≡ false
      go true e = absurd (n (same a b ((Equal-is (cmp a b)).0 e)))
      go false e = refl

  one-or-not : (a b : K) → (a ≡ b) ⊎ ¬ (a ≡ b)
  one-or-not a b = go (is_eq (cmp a b)) refl
    where
      go : (t : Bool) → is_eq (cmp a b) ≡ t → (a ≡ b) ⊎ ¬ (a ≡ b)
      go true e = inl (same a b ((Equal-is (cmp a b)).0 e))
      go false e = inr (λ s. true≢false (sym (ap is_eq (itself b))
          ∙ subst (λ (x : K). is_eq (cmp x b) ≡ false) s e))

-- the origin of a payload, and its provider
origin-or : Origin → Payload → Origin
origin-or x (payloads.Origin y) = y
origin-or x (payloads.Provider y) = x

provider-or : Provider → Payload → Provider
provider-or x (payloads.Origin y) = x
provider-or x (payloads.Provider y) = y

is-origin : Payload → Bool
is-origin (payloads.Origin y) = true
is-origin (payloads.Provider y) = false

one-payload : (x y : Payload) → (x ≡ y) ⊎ ¬ (x ≡ y)
unfolding origin-or provider-or is-origin
one-payload (payloads.Origin x) (payloads.Origin y) =
    elim (one-or-not origin_order same-origin origin-itself x y) [
      | inl s ↦ inl (ap payloads.Origin s)
      | inr n ↦ inr (λ e. n (ap (origin-or x) e))
    ]
one-payload (payloads.Origin x) (payloads.Provider y) = inr (λ e. true≢false (ap is-origin e))
one-payload (payloads.Provider x) (payloads.Origin y) =
    inr (λ e. true≢false (sym (ap is-origin e)))
one-payload (payloads.Provider x) (payloads.Provider y) =
    elim (one-or-not provider_order same-provider provider-itself x y) [
      | inl s ↦ inl (ap payloads.Provider s)
      | inr n ↦ inr (λ e. n (ap (provider-or x) e))
    ]

one-text : (a b : List ℕ) → (a ≡ b) ⊎ ¬ (a ≡ b)
one-text a b = go (bytes_eq a b) refl
  where
    go : (t : Bool) → bytes_eq a b ≡ t → (a ≡ b) ⊎ ¬ (a ≡ b)
    go true e = inl ((bytes_eq-Decides a b).0 e)
    go false e = inr (λ s. true≢false (sym ((bytes_eq-Decides a b).1 s) ∙ e))

-- ---- the one that holds longer

pub takes-new : (old : Option Held) (h : Held) → ends_before old h.until ≡ true
    → Some h ≡ Some (longer old h)
takes-new None h e = refl
takes-new (Some k) h e = ap Some (sym (ap (λ (b : Bool). cond b h k) e))

pub stays-old : (old : Option Held) (h : Held) → ends_before old h.until ≡ false
    → old ≡ Some (longer old h)
stays-old None h e = absurd (true≢false e)
stays-old (Some k) h e = ap Some (sym (ap (λ (b : Bool). cond b h k) e))

one-of : (old : Option Held) (h g : Held) → longer old h ≡ g → (old ≡ Some g) ⊎ (h ≡ g)
one-of old h g e = go (ends_before old h.until) refl
  where
    go : (b : Bool) → ends_before old h.until ≡ b → (old ≡ Some g) ⊎ (h ≡ g)
    go true t = inr (some-same (takes-new old h t) ∙ e)
      where
        some-same : Some h ≡ Some (longer old h) → h ≡ longer old h
        some-same s = cc
    go false t = inl (stays-old old h t ∙ ap Some e)

lt-le : (m n : ℕ) → ltb m n ≡ true → m ≤ n
lt-le m n e = omega (arith, ltb-true m n e)

le-same : (n : ℕ) → n ≤ n
le-same n = omega arith

-- as long as either
as-long : (k h : Held) → (stamp h.until ≤ stamp (longer (Some k) h).until)
    × (stamp k.until ≤ stamp (longer (Some k) h).until)
as-long k h = go (nat_lt (stamp k.until) (stamp h.until)) refl
  where
    go : (b : Bool) → nat_lt (stamp k.until) (stamp h.until) ≡ b
        → (stamp h.until ≤ stamp (cond b h k).until) × (stamp k.until ≤ stamp (cond b h k).until)
    go true e = (le-same (stamp h.until), lt-le (stamp k.until) (stamp h.until) e)
    go false e = (ltb-false (stamp k.until) (stamp h.until) e, le-same (stamp k.until))

as-long-as-new : (old : Option Held) (h : Held) → stamp h.until ≤ stamp (longer old h).until
as-long-as-new None h = omega arith
as-long-as-new (Some k) h = (as-long k h).0

as-long-as-old : (old : Option Held) (h k : Held) → old ≡ Some k
    → stamp k.until ≤ stamp (longer old h).until
as-long-as-old old h k e =
    subst (λ (o : Option Held). stamp k.until ≤ stamp (longer o h).until) (sym e)
    ((as-long k h).1)

-- ---- payloads

pub keeps-origin : (x : Origin) (h : Held) (old new : Payloads)
    → KeepsLonger origin_order x h old.origins new.origins → new.providers ≡ old.providers
    → Keeps (payloads.Origin x) h old new
keeps-origin x h old new k e = record { here = k.here; others = others }
  where
    others : (y : Payload) → ¬ (y ≡ payloads.Origin x) → held_in new y ≡ held_in old y
    others (payloads.Origin y) n =
        k.others y (apart origin_order same-origin origin-itself x y
        (λ s. n (ap payloads.Origin (sym s))))
    others (payloads.Provider y) n =
        ap (λ (m : BTreeMap Provider Held). get provider_order m y) e

pub keeps-provider : (x : Provider) (h : Held) (old new : Payloads)
    → KeepsLonger provider_order x h old.providers new.providers → new.origins ≡ old.origins
    → Keeps (payloads.Provider x) h old new
keeps-provider x h old new k e = record { here = k.here; others = others }
  where
    others : (y : Payload) → ¬ (y ≡ payloads.Provider x) → held_in new y ≡ held_in old y
    others (payloads.Origin y) n = ap (λ (m : BTreeMap Origin Held). get origin_order m y) e
    others (payloads.Provider y) n =
        k.others y (apart provider_order same-provider provider-itself x y
        (λ s. n (ap payloads.Provider (sym s))))

-- ---- findings

module _ (x : Payload) (h : Held) (old new : Found) (k : Keeps x h old.payloads new.payloads)
    (r : new.refusals.by_line ≡ old.refusals.by_line) where
  payload-listed : (y : Payload) (g : Held) → ((y ≡ x) ⊎ ¬ (y ≡ x))
      → held_in new.payloads y ≡ Some g
      → Lists old (findings.Payload y g) ⊎ (findings.Payload x h ≡ findings.Payload y g)
  payload-listed y g (inl s) e =
      elim (one-of (held_in old.payloads x) h g (some-same _ g (sym k.here
      ∙ subst (λ (z : Payload). held_in new.payloads z ≡ Some g) s e))) [
        | inl o ↦ inl (subst (λ (z : Payload). held_in old.payloads z ≡ Some g) (sym s) o)
        | inr n ↦ inr (λ i. findings.Payload (sym s i) (n i))
      ]
    where
      some-same : (a b : Held) → Some a ≡ Some b → a ≡ b
      some-same a b e = cc
  payload-listed y g (inr n) e = inl (sym (k.others y n) ∙ e)

  payload-stays : (y : Payload) (g : Held) → ((y ≡ x) ⊎ ¬ (y ≡ x))
      → HasAsLong old (findings.Payload y g) → HasAsLong new (findings.Payload y g)
  payload-stays y g (inl s) w = (
    longer (held_in old.payloads x) h,
    ap (λ (z : Payload). held_in new.payloads z) s ∙ k.here,
    omega (
      arith,
      w.2,
      as-long-as-old (held_in old.payloads x) h (w.0)
          (subst (λ (z : Payload). held_in old.payloads z ≡ Some (w.0)) s (w.1)),
    ),
  )
  payload-stays y g (inr n) w = (w.0, k.others y n ∙ w.1, w.2)

  pub keeps-payload : KeepsFinding (findings.Payload x h) old new
  keeps-payload = record {
    lists = lists;
    stays = stays;
    kept = (
      longer (held_in old.payloads x) h,
      k.here,
      as-long-as-new (held_in old.payloads x) h,
    );
  }
    where
      lists : (y : Finding) → Lists new y → Lists old y ⊎ (findings.Payload x h ≡ y)
      lists (findings.Payload y g) e = payload-listed y g (one-payload y x) e
      lists (findings.Refusal q) w =
          inl (subst (λ (m : BTreeMap (String Global) Refusal).
          get_by_text m (refusal_line q) ≡ Some q) r w)

      stays : (y : Finding) → HasAsLong old y → HasAsLong new y
      stays (findings.Payload y g) w = payload-stays y g (one-payload y x) w
      stays (findings.Refusal q) w = (
        w.0,
        ap (λ (m : BTreeMap (String Global) Refusal). get_by_text m (refusal_line q)) r ∙ w.1,
        w.2,
      )

module _ (x : Refusal) (old new : Found) (k : KeepsRefusal x old.refusals.by_line new.refusals.by_line)
    (p : new.payloads ≡ old.payloads) where
  refusal-listed : (q : Refusal)
      → ((refusal_line q ≡ refusal_line x) ⊎ ¬ (refusal_line q ≡ refusal_line x))
      → get_by_text new.refusals.by_line (refusal_line q) ≡ Some q
      → Lists old (findings.Refusal q) ⊎ (findings.Refusal x ≡ findings.Refusal q)
  refusal-listed q (inl s) e =
      inr (ap findings.Refusal (some-same x q (sym k.here
      ∙ subst (λ (l : List ℕ). get_by_text new.refusals.by_line l ≡ Some q) s e)))
    where
      some-same : (a b : Refusal) → Some a ≡ Some b → a ≡ b
      some-same a b e = cc
  refusal-listed q (inr n) e = inl (sym (k.others (refusal_line q) n) ∙ e)

  refusal-stays : (q : Refusal)
      → ((refusal_line q ≡ refusal_line x) ⊎ ¬ (refusal_line q ≡ refusal_line x))
      → HasAsLong old (findings.Refusal q) → HasAsLong new (findings.Refusal q)
  refusal-stays q (inl s) w =
      (x, ap (λ (line : List ℕ). get_by_text new.refusals.by_line line) s ∙ k.here, sym s)
  refusal-stays q (inr n) w = (w.0, k.others (refusal_line q) n ∙ w.1, w.2)

  pub keeps-refusal : KeepsFinding (findings.Refusal x) old new
  keeps-refusal = record {
    lists = lists;
    stays = stays;
    kept = (x, k.here, refl);
  }
    where
      lists : (y : Finding) → Lists new y → Lists old y ⊎ (findings.Refusal x ≡ y)
      lists (findings.Payload y g) e =
          inl (subst (λ (z : Payloads). held_in z y ≡ Some g) p e)
      lists (findings.Refusal q) w =
          refusal-listed q (one-text (refusal_line q) (refusal_line x)) w

      stays : (y : Finding) → HasAsLong old y → HasAsLong new y
      stays (findings.Payload y g) w =
          (w.0, ap (λ (z : Payloads). held_in z y) p ∙ w.1, w.2)
      stays (findings.Refusal q) w =
          refusal-stays q (one-text (refusal_line q) (refusal_line x)) w

-- ---- a refusal is put at its line

pub puts-refusal : (x : Refusal) (line : List ℕ) (old new : BTreeMap (String Global) Refusal)
    → line ≡ refusal_line x
    → ((bs : List ℕ) → get_by_text new bs ≡ update bytes_eq (get_by_text old) line (Some x) bs)
    → KeepsRefusal x old new
puts-refusal x line old new e f = record {
  here = f (refusal_line x)
      ∙ ap (λ (b : Bool). cond b (Some x) (get_by_text old (refusal_line x)))
      ((bytes_eq-Decides line (refusal_line x)).1 e);
  others = λ bs n. f bs ∙ ap (λ (b : Bool). cond b (Some x) (get_by_text old bs)) (other bs n);
}
  where
    other : (bs : List ℕ) → ¬ (bs ≡ refusal_line x) → bytes_eq line bs ≡ false
    other bs n = go (bytes_eq line bs) refl
      where
        go : (t : Bool) → bytes_eq line bs ≡ t → t ≡ false
        go true s = absurd (n (sym ((bytes_eq-Decides line bs).0 s) ∙ e))
        go false s = refl

pub lines-stay : (x : Refusal) (old new : BTreeMap (String Global) Refusal)
    → KeepsRefusal x old new → StandAtTheirLines old → StandAtTheirLines new
lines-stay x old new k stand line q e = go (one-text line (refusal_line x))
  where
    some-same : (a b : Refusal) → Some a ≡ Some b → a ≡ b
    some-same a b e = cc

    go : ((line ≡ refusal_line x) ⊎ ¬ (line ≡ refusal_line x)) → line ≡ refusal_line q
    go (inl s) = s ∙ ap (λ (r : Refusal). refusal_line r) (some-same x q (sym k.here
        ∙ subst (λ (l : List ℕ). get_by_text new l ≡ Some q) s e))
    go (inr n) = stand line q (sym (k.others line n) ∙ e)

-- ---- findings, one after the other

pub keeps-none : (found : Found) → KeepsFindings [] found found
keeps-none found = record {
  lists = λ y l. inl l;
  stays = λ y h. h;
  kept = λ k d h. absurd (omega (arith, h));
}

pub keeps-more : (x : Finding) (done : List Finding) (old mid new : Found)
    → KeepsFindings done old mid → KeepsFinding x mid new
    → KeepsFindings (done ++ x ∷ []) old new
keeps-more x done old mid new a b = record {
  lists = lists;
  stays = λ y h. b.stays y (a.stays y h);
  kept = All-push (HasAsLong new) done x (λ k d h. b.stays (get_or done k d) (a.kept k d h)) b.kept;
}
  where
    lists : (y : Finding) → Lists new y → Lists old y ⊎ Contains (done ++ x ∷ []) y
    lists y l = elim (b.lists y l) [
      | inl m ↦ elim (a.lists y m) [
        | inl o ↦ inl o
        | inr c ↦ inr (Contains-append_left done (x ∷ []) y c)
      ]
      | inr s ↦ inr (subst (λ (z : Finding). Contains (done ++ x ∷ []) z) s (Contains-push done x))
    ]
