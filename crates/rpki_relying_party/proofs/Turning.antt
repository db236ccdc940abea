-- The turns of a walk keep what was read, what was left, and what waits.
use Rattle.std.proofs.Common.{◌≡◌, ◌≢◌, ◌⊎◌, inl, inr, ℕ, ◌+◌, ◌-◌, ◌*◌, ◌<◌, ◌≤◌, List, [], ◌∷◌}
use Rattle.std.proofs.Common.{◌++◌, append_assoc, get_or, Bool, Contains, All, map, refl, sym}
use Rattle.std.proofs.Common.{subst, ap, ◌∙◌, arith, length, length-append}
use Rattle.std.specs.Prelude.{◌↔◌, IsTrue, IsPermutation, flat_map}
use Rattle.std.proofs.lemmas.List.{append-nil, map-append, flat_map_more}
use Rattle.std.proofs.lemmas.List.Quantifiers.{all_pairs_push}
use Rattle.std.proofs.lemmas.List.Sums.{sum_by_push}
use Rattle.std.proofs.lemmas.List.Elements.{All-nil, All-push, All-append, All-weaker, All-contains}
use Rattle.std.proofs.lemmas.List.Elements.{Contains-append_left, Contains-append_right}
use Rattle.std.proofs.lemmas.List.Elements.{Contains-append_cases, Contains-push, Contains-get_or}
use Rattle.std.proofs.lemmas.List.Sorted.{IsPermutation-sym, All-permutation, Contains-permutation}
use Rattle.std.proofs.lemmas.List.Sorted.{length_permutation}
use Rattle.std.proofs.lemmas.Map.Made.{AllPairs-from_IsDistinct}
use Rattle.std.proofs.lemmas.Slice.Eq.{bytes_eq-Decides}
use Rattle.rpki_relying_party.specs.declared.walk.Why.{Why}
use Rattle.rpki_relying_party.specs.declared.walk.Why.TheVariants.{Limit, Memory}
use Rattle.rpki_relying_party.specs.Walk.{Read, Left, Try, IsToldChild, IsMet, HasKey, IsWalk}
use Rattle.rpki_relying_party.specs.Walk.{IsSmall, HasLacked, IsLastTry, IsWholeTry, places_read}
use Rattle.rpki_relying_party.specs.Walk.{places_left, places_settled, places_told, spent_on}
use Rattle.rpki_relying_party.specs.Walk.{total, first_room}
use Rattle.rpki_relying_party.specs.Steps.{Adds, ArePassed, IsTurn, IsVisit, WasLeft, WasCut}
use Rattle.rpki_relying_party.specs.Steps.{WasRead, Spends, left_for}
use Rattle.rpki_relying_party.proofs.Lists.{all-of, contains-first, contains-rest}
use Rattle.rpki_relying_party.proofs.Lists.{contains-mapped, all-front, contains-flat, push-cases}
use Rattle.rpki_relying_party.proofs.Settling.{AreKeyed, differ, one-key, one-read, one-left}
use Rattle.rpki_relying_party.proofs.Settling.{order-passed, order-settled, order-met}
use Rattle.rpki_relying_party.proofs.Spending.{spent-fits, spent-more, spent-else, spent-grows}
use Rattle.rpki_relying_party.proofs.Spending.{spent-here, small-stays, small-more, small-once}
use Rattle.rpki_relying_party.proofs.Walking.{IsRun, leads-on, leads-weaker}

-- ---- numbers

no-room : (a r : ℕ) → 0 < a → a ≤ r → r ≡ 0 → ⊥
no-room a r h i e = absurd (omega (arith, h, i, e))

all-gone : (a r : ℕ) → a ≡ r → r - a ≡ 0
all-gone a r e = omega arith

still-none : (r c : ℕ) → r ≡ 0 → r - c ≡ 0
still-none r c e = omega arith

some-room : (n : ℕ) → 0 < first_room n
some-room n = omega arith

for-memory : (w : Why) (r : ℕ) → 0 < r → (w ≡ Limit → r ≡ 0) → w ≡ Memory
for-memory Limit r some h = absurd (omega (arith, some, h refl))
for-memory Memory r some h = refl

module _ {P X : Type 0} (tells : P → List X → List P → Type 0) (costs exceeds : P → ℕ → Type 0)
    (key : P → List ℕ) (listed had : X → Type 0) (first : Read P X) (limit : ℕ) where
  abbrev Run : (X → Type 0) → (X → Type 0) → ℕ → List (Left P) → (List ℕ → Bool)
      → (List ℕ → Bool) → (List ℕ → ℕ) → List P → Type 0
  Run lists has room unread read lacking spent waiting =
      IsRun tells costs exceeds key listed lists had has first limit room unread read lacking spent
      waiting

  -- tries that lacked memory
  abbrev AreWhole : List (Left P) → Type 0 → List (Try P) → Type 0
  AreWhole unread Gone cuts =
      All (λ u. IsWholeTry limit Gone (spent_on key cuts (key u.place)) u.tried) unread

  still-whole : (unread : List (Left P)) (A B : Type 0) (cuts : List (Try P)) → (A → B)
      → AreWhole unread A cuts → AreWhole unread B cuts
  still-whole unread A B cuts f = All-weaker
      (λ u. IsWholeTry limit A (spent_on key cuts (key u.place)) u.tried)
      (λ u. IsWholeTry limit B (spent_on key cuts (key u.place)) u.tried)
      (λ u h some. elim (h some) [
        | inl e ↦ inl e
        | inr a ↦ inr (f a)
      ]) unread

  -- ---- some are passed over
  run-over : (lists has : X → Type 0) (room : ℕ) (unread : List (Left P))
      (read lacking : List ℕ → Bool) (spent : List ℕ → ℕ) (waiting passed waiting2 : List P)
      → Run lists has room unread read lacking spent waiting
      → All (λ p. IsTrue (read (key p))) passed → IsPermutation waiting (passed ++ waiting2)
      → Run lists has room unread read lacking spent waiting2
  run-over lists has room unread read lacking spent waiting passed waiting2 r over split = record {
    reads = r.reads;
    begun = r.begun;
    told = r.told;
    cost = r.cost;
    once = r.once;
    passed = r.passed ++ passed;
    over = All-append (λ p. HasKey key (places_read r.reads) (key p)) r.passed passed
        r.over (All-weaker (λ p. IsTrue (read (key p)))
        (λ p. HasKey key (places_read r.reads) (key p))
        (λ p t. (r.once.keyed (key p)).0 t) passed over);
    fresh = r.fresh;
    split = order-passed (places_told first.place r.reads) (places_settled r.reads unread) r.passed
        waiting passed waiting2 r.split split;
    reached = r.reached;
    found = r.found;
    kept = r.kept;
    stays = r.stays;
    cuts = r.cuts;
    cut = r.cut;
    cut_met = r.cut_met;
    counts = r.counts;
    exact = r.exact;
    full = r.full;
    small = r.small;
    rooms = r.rooms;
    left = r.left;
    whole = r.whole;
    wasted = r.wasted;
    doubles = r.doubles;
    tried = r.tried;
    lacks = r.lacks;
    lacked = r.lacked;
    lacked_once = r.lacked_once;
  }

  -- the others in another order
  run-order : (lists has : X → Type 0) (room : ℕ) (unread : List (Left P))
      (read lacking : List ℕ → Bool) (spent : List ℕ → ℕ) (waiting waiting2 : List P)
      → Run lists has room unread read lacking spent waiting → IsPermutation waiting waiting2
      → Run lists has room unread read lacking spent waiting2
  run-order lists has room unread read lacking spent waiting waiting2 r split =
      run-over lists has room unread read lacking spent waiting [] waiting2 r
      (All-nil (λ p. IsTrue (read (key p)))) split

  -- ---- the turn of a place came, whose key was not read
  module _ (lists has : X → Type 0) (room : ℕ) (unread : List (Left P))
      (read lacking : List ℕ → Bool) (spent : List ℕ → ℕ) (p : P) (waiting : List P)
      (r : Run lists has room unread read lacking spent (p ∷ waiting))
      (unknown : ¬ IsTrue (read (key p))) where
    -- those that were left for the limit were left where nothing is left
    full-then : (n : ℕ) → All (λ u. u.why ≡ Limit → room - n ≡ 0) unread
    full-then n = All-weaker (λ u. u.why ≡ Limit → room ≡ 0) (λ u. u.why ≡ Limit → room - n ≡ 0)
        (λ u h l. still-none room n (h l)) unread r.full

    -- ---- it is left: without a try, or after one for which there was no memory
    module _ (why : Why) (tried : ℕ) (lacking2 : List ℕ → Bool) (fits : tried ≤ room)
        (last : IsLastTry limit (spent (key p)) why tried) (full : why ≡ Limit → room ≡ 0)
        (whole : 0 < tried → (tried ≡ spent (key p) + first_room limit) ⊎ (tried ≡ room))
        (memory : (why ≡ Memory) ↔ IsTrue (lacking2 (key p)))
        (how : ((tried ≡ 0) × (lacking2 ≡ lacking))
        ⊎ ((0 < tried) × Adds (key p) lacking lacking2 × ¬ IsTrue (lacking (key p)))) where
      abbrev left : Left P
      left = left_for p why tried

      abbrev unread2 : List (Left P)
      unread2 = unread ++ left ∷ []

      still-lacks : (k : List ℕ) → IsTrue (lacking k) → IsTrue (lacking2 k)
      still-lacks k t = elim how [
        | inl h ↦ subst (λ (l : List ℕ → Bool). IsTrue (l k)) (sym (h.1)) t
        | inr h ↦ (h.1 k).1 (inl t)
      ]

      lacked-still : (k : List ℕ) → IsTrue (lacking k) → HasLacked key unread2 k
      lacked-still k t =
          let w = (r.lacks k).0 t in
          (w.0, Contains-append_left unread (left ∷ []) (w.0) (w.1), w.2, w.3)

      has-lacked : (k : List ℕ) → IsTrue (lacking2 k) → HasLacked key unread2 k
      has-lacked k t = elim how [
        | inl h ↦ lacked-still k (subst (λ (l : List ℕ → Bool). IsTrue (l k)) (h.1) t)
        | inr h ↦ (elim ((h.1 k).0 t) [
          | inl old ↦ lacked-still k old
          | inr s ↦ (left, Contains-push unread left, sym s, h.0)
        ])
      ]

      is-lacking : (k : List ℕ) → HasLacked key unread2 k → IsTrue (lacking2 k)
      is-lacking k w = elim (push-cases unread left (w.0) (w.1)) [
        | inl c ↦ still-lacks k ((r.lacks k).1 (w.0, c, w.2, w.3))
        | inr s ↦ (elim how [
          | inl h ↦ absurd (omega (arith, w.3, ap (λ (u : Left P). u.tried) s, h.0))
          | inr h ↦ (h.1 k).1 (inr (sym (w.2) ∙ ap (λ (u : Left P). key u.place) s))
        ])
      ]

      -- those that were left for memory are those whose keys lack it
      for-lack : (u : Left P) → Contains unread u
          → (u.why ≡ Memory) ↔ IsTrue (lacking2 (key u.place))
      for-lack u c =
          let was = All-contains (λ u. (u.why ≡ Memory) ↔ IsTrue (lacking (key u.place))) unread u
          r.lacked c in (
            λ m. still-lacks (key u.place) (was.0 m),
            λ t. elim how [
              | inl h ↦
                  was.1 (subst (λ (l : List ℕ → Bool). IsTrue (l (key u.place))) (h.1) t)
              | inr h ↦ for-memory u.why room (omega (arith, h.0, fits))
                  (All-contains (λ u. u.why ≡ Limit → room ≡ 0) unread u r.full c)
            ],
          )

      once-more : (u : Left P) → Contains unread u → 0 < u.tried → 0 < tried
          → key u.place ≢ key p
      once-more u c some now e = elim how [
        | inl h ↦ absurd (omega (arith, now, h.0))
        | inr h ↦ h.2 ((r.lacks (key p)).1 (u, c, e, some))
      ]

      pub run-left : Run lists has (room - tried) unread2 read lacking2 spent waiting
      run-left = record {
        reads = r.reads;
        begun = r.begun;
        told = r.told;
        cost = r.cost;
        once = r.once;
        passed = r.passed;
        over = r.over;
        fresh = All-push (λ u. ¬ IsTrue (read (key u.place))) unread left r.fresh unknown;
        split = order-settled (places_told first.place r.reads) (places_settled r.reads unread)
            (places_settled r.reads unread2) r.passed waiting p r.split
            (one-left r.reads unread left);
        reached = r.reached;
        found = r.found;
        kept = r.kept;
        stays = r.stays;
        cuts = r.cuts;
        cut = r.cut;
        cut_met = r.cut_met;
        counts = r.counts;
        exact = omega (
          arith,
          fits,
          sum_by_push (λ (u : Left P). u.tried) unread left,
          r.exact,
        );
        full = All-push (λ u. u.why ≡ Limit → room - tried ≡ 0) unread left (full-then tried)
            (λ l. still-none room tried (full l));
        small = r.small;
        rooms = r.rooms;
        left = All-push
            (λ u. IsLastTry limit (spent_on key r.cuts (key u.place)) u.why u.tried) unread left
            r.left (subst (λ (n : ℕ). IsLastTry limit n why tried) (r.counts (key p)) last);
        whole = All-push
            (λ u. IsWholeTry limit (room - tried ≡ 0) (spent_on key r.cuts (key u.place)) u.tried)
            unread left
            (still-whole unread (room ≡ 0) (room - tried ≡ 0) r.cuts (still-none room tried)
            r.whole)
            (λ some. elim (whole some) [
              | inl e ↦ inl (omega (arith, e, r.counts (key p)))
              | inr all ↦ inr (all-gone tried room all)
            ]);
        wasted = r.wasted;
        doubles = elim r.doubles [
          | inl z ↦ inl (still-none room tried z)
          | inr h ↦ inr h
        ];
        tried = r.tried;
        lacks = λ k. (has-lacked k, is-lacking k);
        lacked = All-push (λ u. (u.why ≡ Memory) ↔ IsTrue (lacking2 (key u.place))) unread left
            (all-of (λ u. (u.why ≡ Memory) ↔ IsTrue (lacking2 (key u.place))) unread for-lack)
            memory;
        lacked_once = all_pairs_push
            (λ u v. 0 < u.tried → 0 < v.tried → key u.place ≢ key v.place) unread left
            r.lacked_once (λ i d within.
            once-more (get_or unread i d) (Contains-get_or unread i d within));
      }

    -- ---- it is tried, since its key did not lack memory
    module _ (untried : ¬ IsTrue (lacking (key p))) (allowed : ℕ) (some : 0 < allowed)
        (fits : allowed ≤ room) (most : allowed ≤ spent (key p) + first_room limit) where
      all-small : (k : List ℕ) → IsSmall key r.cuts 2 k (spent_on key r.cuts k)
      all-small = elim r.doubles [
        | inl z ↦ absurd (no-room allowed room some fits z)
        | inr h ↦ h
      ]

      now-met : IsMet first.place r.reads p
      now-met = All-contains (IsMet first.place r.reads) (places_told first.place r.reads) p
          r.reached (Contains-permutation
          (places_settled r.reads unread ++ (r.passed ++ p ∷ waiting))
          (places_told first.place r.reads) p
          (IsPermutation-sym (places_told first.place r.reads)
          (places_settled r.reads unread ++ (r.passed ++ p ∷ waiting)) r.split)
          (Contains-append_right (places_settled r.reads unread) (r.passed ++ p ∷ waiting) p
          (Contains-append_right r.passed (p ∷ waiting) p (contains-first p waiting))))

      -- its reading was cut
      module _ (more : exceeds p allowed) (spent2 : List ℕ → ℕ)
          (spends : Spends (key p) allowed spent spent2)
          (whole : (allowed ≡ spent (key p) + first_room limit) ⊎ (allowed ≡ room)) where
        abbrev try : Try P
        try = record { place = p; room = allowed }

        abbrev cuts2 : List (Try P)
        cuts2 = r.cuts ++ try ∷ []

        more-spent : (k : List ℕ) → spent_on key r.cuts k ≤ spent_on key cuts2 k
        more-spent = spent-grows key r.cuts p allowed

        -- on a key that was read no more is spent
        same : (s : Read P X) → Contains r.reads s
            → spent_on key cuts2 (key s.place) ≡ spent_on key r.cuts (key s.place)
        same s c = spent-else key r.cuts p allowed (key s.place)
            (differ (key p) (key s.place) (λ e. unknown ((r.once.keyed (key p)).1
            (s.place, contains-mapped (λ (s : Read P X). s.place) r.reads s c, sym e))))

        -- nor on one that lacked memory
        same-left : (u : Left P) → Contains unread u → 0 < u.tried
            → spent_on key cuts2 (key u.place) ≡ spent_on key r.cuts (key u.place)
        same-left u c had = spent-else key r.cuts p allowed (key u.place) (differ (key p)
            (key u.place) (λ e. untried ((r.lacks (key p)).1 (u, c, sym e, had))))

        last-try : (n m : ℕ) (why : Why) (tried : ℕ) → n ≤ m → IsLastTry limit n why tried
            → IsLastTry limit m why tried
        last-try n m Limit tried l h = h
        last-try n m Memory tried l h = omega (arith, l, h)

        pub run-cut : Run lists has (room - allowed) unread read lacking spent2 (p ∷ waiting)
        run-cut = record {
          reads = r.reads;
          begun = r.begun;
          told = r.told;
          cost = r.cost;
          once = r.once;
          passed = r.passed;
          over = r.over;
          fresh = r.fresh;
          split = r.split;
          reached = r.reached;
          found = r.found;
          kept = r.kept;
          stays = r.stays;
          cuts = cuts2;
          cut = All-push (λ t. exceeds t.place t.room) r.cuts try r.cut more;
          cut_met = All-push (λ t. IsMet first.place r.reads t.place) r.cuts try r.cut_met now-met;
          counts = λ k. omega (
            arith,
            spends k,
            r.counts k,
            spent-more key r.cuts p allowed k,
          );
          exact = omega (
            arith,
            fits,
            sum_by_push (λ (t : Try P). t.room) r.cuts try,
            r.exact,
          );
          full = full-then allowed;
          small = All-weaker
              (λ s. s.cost ≤ spent_on key r.cuts (key s.place) + first_room limit)
              (λ s. s.cost ≤ spent_on key cuts2 (key s.place) + first_room limit)
              (λ s h. omega (arith, h, more-spent (key s.place))) (r.begun.0) r.small;
          rooms = All-push
              (λ t. 2 * t.room ≤ spent_on key cuts2 (key t.place) + first_room limit) r.cuts try
              (All-weaker
              (λ t. 2 * t.room ≤ spent_on key r.cuts (key t.place) + first_room limit)
              (λ t. 2 * t.room ≤ spent_on key cuts2 (key t.place) + first_room limit)
              (λ t h. omega (arith, h, more-spent (key t.place))) r.cuts r.rooms)
              (omega (arith, spent-here key r.cuts p allowed, most, r.counts (key p)));
          left = All-weaker
              (λ u. IsLastTry limit (spent_on key r.cuts (key u.place)) u.why u.tried)
              (λ u. IsLastTry limit (spent_on key cuts2 (key u.place)) u.why u.tried)
              (λ u h. last-try (spent_on key r.cuts (key u.place))
              (spent_on key cuts2 (key u.place)) u.why u.tried (more-spent (key u.place)) h) unread
              r.left;
          whole = all-of (λ u.
              IsWholeTry limit (room - allowed ≡ 0) (spent_on key cuts2 (key u.place)) u.tried)
              unread (λ u c had. elim (All-contains
              (λ u. IsWholeTry limit (room ≡ 0) (spent_on key r.cuts (key u.place)) u.tried) unread
              u r.whole c had) [
                | inl e ↦ inl (omega (arith, e, same-left u c had))
                | inr z ↦ inr (still-none room allowed z)
              ]);
          wasted = small-once key r.cuts p allowed all-small;
          doubles = elim whole [
            | inl more ↦ inr (small-more key r.cuts p allowed all-small
                (omega (arith, more, some-room limit, r.counts (key p))))
            | inr all ↦ inl (all-gone allowed room all)
          ];
          tried = all-of
              (λ s. IsSmall key cuts2 2 (key s.place) (spent_on key cuts2 (key s.place))) r.reads
              (λ s c. subst (λ (n : ℕ). IsSmall key cuts2 2 (key s.place) n) (sym (same s c))
              (small-stays key r.cuts p allowed 2 (key s.place)
              (spent_on key r.cuts (key s.place)) (all-small (key s.place))));
          lacks = r.lacks;
          lacked = r.lacked;
          lacked_once = r.lacked_once;
        }

      -- it is read
      module _ (lists2 has2 : X → Type 0) (said : List X) (children : List P) (c : ℕ)
          (read2 : List ℕ → Bool) (told : tells p said children) (cost : costs p c)
          (cheap : c ≤ allowed) (adds : Adds (key p) read read2)
          (found : (x : X) → lists2 x → lists x ⊎ Contains said x)
          (stays : (x : X) → has x → has2 x) (kept : All has2 said) where
        abbrev now : Read P X
        now = record { place = p; said = said; children = children; cost = c }

        abbrev reads2 : List (Read P X)
        reads2 = r.reads ++ now ∷ []

        places2 : places_read r.reads ++ p ∷ [] ≡ places_read reads2
        places2 = sym (map-append (λ (s : Read P X). s.place) r.reads (now ∷ []))

        told2 : places_told first.place r.reads ++ children ≡ places_told first.place reads2
        told2 = flat_map_more (λ (s : Read P X). s.children) (first.place ∷ []) r.reads now

        -- no place that was left has its key
        other : (u : Left P) → Contains unread u → ¬ (key u.place ≡ key p)
        other u i e = by u.why refl
          where
            by : (w : Why) → u.why ≡ w → ⊥
            by Limit l = no-room allowed room some fits
                (All-contains (λ u. u.why ≡ Limit → room ≡ 0) unread u r.full i l)
            by Memory m = untried (subst (λ (j : List ℕ). IsTrue (lacking j)) e
                ((All-contains (λ u. (u.why ≡ Memory) ↔ IsTrue (lacking (key u.place))) unread u
                r.lacked i).0 m))

        fresh2 : (u : Left P) → Contains unread u → ¬ IsTrue (read2 (key u.place))
        fresh2 u i t = elim ((adds (key u.place)).0 t) [
          | inl old ↦
              All-contains (λ u. ¬ IsTrue (read (key u.place))) unread u r.fresh i old
          | inr e ↦ other u i e
        ]

        grows : (q : P) → IsMet first.place r.reads q → IsMet first.place reads2 q
        grows q h = (
          h.0,
          leads-weaker (IsToldChild r.reads) (IsToldChild reads2)
              (λ a b t. (t.0, Contains-append_left r.reads (now ∷ []) (t.0) (t.1), t.2, t.3))
              (h.0) first.place q (h.1),
        )

        child-met : (q : P) → Contains children q → IsMet first.place reads2 q
        child-met q h =
            let to = grows p now-met in (
              to.0 ++ q ∷ [],
              leads-on (IsToldChild reads2) first.place p q (to.0) (to.1)
                  (now, Contains-push r.reads now, refl, h),
            )

        pub run-read : Run lists2 has2 (room - c) unread read2 lacking spent (children ++ waiting)
        run-read = record {
          reads = reads2;
          begun = (
            r.begun.0 ++ now ∷ [],
            ap (λ (l : List (Read P X)). l ++ now ∷ []) (r.begun.1),
          );
          told = All-push (λ s. tells s.place s.said s.children) r.reads now r.told told;
          cost = All-push (λ s. costs s.place s.cost) r.reads now r.cost cost;
          once = subst (λ (l : List P). AreKeyed key read2 l) places2
              (one-key key read read2 (places_read r.reads) p r.once unknown adds);
          passed = r.passed;
          over = subst (λ (l : List P). All (λ q. HasKey key l (key q)) r.passed) places2
              (All-weaker (λ q. HasKey key (places_read r.reads) (key q))
              (λ q. HasKey key (places_read r.reads ++ p ∷ []) (key q))
              (λ q h. (h.0, Contains-append_left (places_read r.reads) (p ∷ []) (h.0) (h.1), h.2))
              r.passed r.over);
          fresh = all-of (λ u. ¬ IsTrue (read2 (key u.place))) unread fresh2;
          split = subst (λ (l : List P). IsPermutation l (places_settled reads2 unread
              ++ (r.passed ++ (children ++ waiting)))) told2
              (order-met (places_told first.place r.reads) (places_settled reads2 unread) r.passed
              waiting children
              (order-settled (places_told first.place r.reads) (places_settled r.reads unread)
              (places_settled reads2 unread) r.passed waiting p r.split
              (one-read r.reads unread now)));
          reached = subst (λ (l : List P). All (IsMet first.place reads2) l) told2
              (All-append (IsMet first.place reads2) (places_told first.place r.reads) children
              (All-weaker (IsMet first.place r.reads) (IsMet first.place reads2) grows
              (places_told first.place r.reads) r.reached)
              (all-of (IsMet first.place reads2) children child-met));
          found = λ x l. elim (found x l) [
            | inl old ↦ (elim (r.found x old) [
              | inl before ↦ inl before
              | inr s ↦ inr (s.0, Contains-append_left r.reads (now ∷ []) (s.0) (s.1), s.2)
            ])
            | inr new ↦ inr (now, Contains-push r.reads now, new)
          ];
          kept = All-push (λ s. All has2 s.said) r.reads now
              (All-weaker (λ s. All has s.said) (λ s. All has2 s.said)
              (λ s h. All-weaker has has2 stays s.said h) r.reads r.kept) kept;
          stays = λ x h. stays x (r.stays x h);
          cuts = r.cuts;
          cut = r.cut;
          cut_met = All-weaker (λ t. IsMet first.place r.reads t.place)
              (λ t. IsMet first.place reads2 t.place) (λ t h. grows t.place h) r.cuts r.cut_met;
          counts = r.counts;
          exact = omega (
            arith,
            cheap,
            fits,
            sum_by_push (λ (s : Read P X). s.cost) r.reads now,
            r.exact,
          );
          full = full-then c;
          small = All-push (λ s. s.cost ≤ spent_on key r.cuts (key s.place) + first_room limit)
              (r.begun.0) now r.small (omega (arith, cheap, most, r.counts (key p)));
          rooms = r.rooms;
          left = r.left;
          whole = still-whole unread (room ≡ 0) (room - c ≡ 0) r.cuts (still-none room c) r.whole;
          wasted = r.wasted;
          doubles = inr all-small;
          tried = All-push
              (λ s. IsSmall key r.cuts 2 (key s.place) (spent_on key r.cuts (key s.place))) r.reads
              now r.tried (all-small (key p));
          lacks = r.lacks;
          lacked = r.lacked;
          lacked_once = r.lacked_once;
        }

  -- ---- some are passed over, and some left
  module _ (lists has : X → Type 0) (room : ℕ) (read lacking : List ℕ → Bool)
      (spent : List ℕ → ℕ) where
    abbrev At : List (Left P) → List P → Type 0
    At unread waiting = Run lists has room unread read lacking spent waiting

    abbrev IsLacking : P → Type 0
    IsLacking p = (¬ IsTrue (read (key p))) × IsTrue (lacking (key p))

    abbrev without : List P → List (Left P)
    without ps = map (λ p. left_for p Memory 0) ps

    untaken : room - 0 ≡ room
    untaken = omega arith

    run-untried : (p : P) (unread : List (Left P)) (waiting : List P) → At unread (p ∷ waiting)
        → ¬ IsTrue (read (key p)) → (why : Why) → IsLastTry limit (spent (key p)) why 0
        → (why ≡ Limit → room ≡ 0) → (why ≡ Memory) ↔ IsTrue (lacking (key p))
        → At (unread ++ left_for p why 0 ∷ []) waiting
    run-untried p unread waiting r unknown why last full memory =
        subst (λ (m : ℕ). Run lists has m (unread ++ left_for p why 0 ∷ []) read lacking spent
        waiting) untaken
        (run-left lists has room unread read lacking spent p waiting r unknown why 0 lacking
        (omega arith) last full (λ some. absurd (omega (arith, some))) memory (inl (refl, refl)))

    run-lacking : (ps : List P) (unread : List (Left P)) (waiting : List P)
        → At unread (ps ++ waiting) → ((p : P) → Contains ps p → IsLacking p)
        → At (unread ++ without ps) waiting
    run-lacking [] unread waiting r h =
        subst (λ (l : List (Left P)). At l waiting) (sym (append-nil unread)) r
    run-lacking (p ∷ ps) unread waiting r h =
        let now = h p (contains-first p ps) in
        subst (λ (l : List (Left P)). At l waiting)
        (append_assoc unread (left_for p Memory 0 ∷ []) (without ps))
        (run-lacking ps (unread ++ left_for p Memory 0 ∷ []) waiting
        (run-untried p unread (ps ++ waiting) r (now.0) Memory (omega arith) (λ l. cc)
        (λ m. now.1, λ t. refl)) (λ q c. h q (contains-rest p q ps c)))

    pub run-passed : (unread unread2 : List (Left P)) (waiting waiting2 : List P)
        → At unread waiting → ArePassed key read lacking unread unread2 waiting waiting2
        → At unread2 waiting2
    run-passed unread unread3 waiting waiting2 r a =
        subst (λ (l : List (Left P)). At l waiting2) (sym a.now)
        (run-lacking a.left unread waiting2
        (run-over lists has room unread read lacking spent waiting a.passed (a.left ++ waiting2) r
        a.over a.split) (λ p c. All-contains IsLacking a.left p a.lack c))

    -- ---- no more is read: one that waits is left for the limit
    pub run-limited : (unread mid-unread unread2 : List (Left P)) (waiting waiting2 : List P)
        (p : P) (k : List ℕ) → At unread waiting → (room ≡ 0) ⊎ (waiting ≡ [])
        → IsTurn key read lacking unread mid-unread waiting waiting2 p k
        → unread2 ≡ mid-unread ++ left_for p Limit 0 ∷ []
        → At unread2 waiting2 × (room ≡ 0)
    run-limited unread mid-unread unread2 waiting waiting2 p k r stop n u = (
      subst (λ (l : List (Left P)). At l waiting2) (sym u)
          (run-untried p mid-unread waiting2
          (run-passed unread mid-unread waiting (p ∷ waiting2) r n.passed)
          (subst (λ (j : List ℕ). ¬ IsTrue (read j)) n.its n.fresh) Limit refl (λ l. none-left) (
            λ l. cc,
            λ t. absurd
                (subst (λ (j : List ℕ). ¬ IsTrue (lacking j)) n.its n.untried t),
          )),
      none-left,
    )
      where
        none-left : room ≡ 0
        none-left = elim stop [
          | inl z ↦ z
          | inr e ↦ absurd (omega (
            arith,
            length_permutation waiting (n.passed.passed ++ (n.passed.left ++ p ∷ waiting2))
                n.passed.split,
            ap (λ (l : List P). length l) e,
            length-append n.passed.passed (n.passed.left ++ p ∷ waiting2),
            length-append n.passed.left (p ∷ waiting2),
          ))
        ]

  -- ---- the turn of a place came
  module _ {F : Type 0} (lists has : F → X → Type 0) (found found2 : F) (room : ℕ)
      (unread0 unread unread2 : List (Left P)) (read read2 lacking lacking2 : List ℕ → Bool)
      (spent spent2 : List ℕ → ℕ) (p : P) (k : List ℕ) (waiting0 waiting waiting2 : List P)
      (allowed done : ℕ)
      (r0 : Run (lists found) (has found) room unread0 read lacking spent waiting0)
      (n : IsTurn key read lacking unread0 unread waiting0 waiting p k) (some : 0 < allowed)
      (fits : allowed ≤ room) (most : allowed ≤ spent k + first_room limit)
      (whole : (allowed ≡ spent k + first_room limit) ⊎ (allowed ≡ room)) where
    r : Run (lists found) (has found) room unread read lacking spent (p ∷ waiting)
    r = run-passed (lists found) (has found) room read lacking spent unread0 unread waiting0
        (p ∷ waiting) r0 n.passed

    -- with the key of the place in place of the octets
    with-key : (Q : List ℕ → Type 0) → Q k → Q (key p)
    with-key Q h = subst Q n.its h

    unknown : ¬ IsTrue (read (key p))
    unknown = with-key (λ j. ¬ IsTrue (read j)) n.fresh

    untried : ¬ IsTrue (lacking (key p))
    untried = with-key (λ j. ¬ IsTrue (lacking j)) n.untried

    most-of : allowed ≤ spent (key p) + first_room limit
    most-of = with-key (λ j. allowed ≤ spent j + first_room limit) most

    whole-of : (allowed ≡ spent (key p) + first_room limit) ⊎ (allowed ≡ room)
    whole-of = with-key (λ j. (allowed ≡ spent j + first_room limit) ⊎ (allowed ≡ room)) whole

    abbrev After : F → ℕ → List (Left P) → (List ℕ → Bool) → (List ℕ → Bool) → (List ℕ → ℕ)
        → List P → Type 0
    After f n u s l t q = Run (lists f) (has f) (room - n) u s l t q

    left-then : WasLeft p k allowed done found found2 unread unread2 read read2 lacking lacking2
        spent spent2 waiting waiting2 → After found2 done unread2 read2 lacking2 spent2 waiting2
    left-then u =
        subst (λ (f : F). After f done unread2 read2 lacking2 spent2 waiting2) (sym u.same_found)
        (subst (λ (n : ℕ). After found n unread2 read2 lacking2 spent2 waiting2) (sym u.all)
        (subst (λ (l : List (Left P)). After found allowed l read2 lacking2 spent2 waiting2)
        (sym u.now)
        (subst (λ (s : List ℕ → Bool). After found allowed now s lacking2 spent2 waiting2)
        (sym u.same_read)
        (subst (λ (t : List ℕ → ℕ). After found allowed now read lacking2 t waiting2)
        (sym u.same_spent)
        (subst (λ (q : List P). After found allowed now read lacking2 spent q)
        (sym u.same_waiting)
        (run-left (lists found) (has found) room unread read lacking spent p waiting r unknown
        Memory allowed lacking2 fits most-of (λ l. cc) (λ t. whole-of)
        (λ m. (lacks (key p)).1 (inr refl), λ t. refl) (inr (some, lacks, untried))))))))
      where
        now : List (Left P)
        now = unread ++ left_for p Memory allowed ∷ []

        lacks : Adds (key p) lacking lacking2
        lacks = with-key (λ j. Adds j lacking lacking2) u.lacks

    cut-then : WasCut exceeds p k allowed done found found2 unread unread2 read read2 lacking
        lacking2 spent spent2 waiting waiting2
        → After found2 done unread2 read2 lacking2 spent2 waiting2
    cut-then u =
        subst (λ (f : F). After f done unread2 read2 lacking2 spent2 waiting2) (sym u.same_found)
        (subst (λ (n : ℕ). After found n unread2 read2 lacking2 spent2 waiting2) (sym u.all)
        (subst (λ (l : List (Left P)). After found allowed l read2 lacking2 spent2 waiting2)
        (sym u.same_left)
        (subst (λ (s : List ℕ → Bool). After found allowed unread s lacking2 spent2 waiting2)
        (sym u.same_read)
        (subst (λ (l : List ℕ → Bool). After found allowed unread read l spent2 waiting2)
        (sym u.same_lacking)
        (run-order (lists found) (has found) (room - allowed) unread read lacking spent2
        (p ∷ waiting) waiting2
        (run-cut (lists found) (has found) room unread read lacking spent p waiting r unknown
        untried allowed some fits most-of u.more spent2
        (with-key (λ j. Spends j allowed spent spent2) u.spends) whole-of) u.waits)))))

    read-then : WasRead tells costs lists has p k allowed done found found2 unread unread2 read
        read2 lacking lacking2 spent spent2 waiting waiting2
        → After found2 done unread2 read2 lacking2 spent2 waiting2
    read-then u =
        subst (λ (l : List (Left P)). After found2 done l read2 lacking2 spent2 waiting2)
        (sym u.none_left)
        (subst (λ (l : List ℕ → Bool). After found2 done unread read2 l spent2 waiting2)
        (sym u.same_lacking)
        (subst (λ (t : List ℕ → ℕ). After found2 done unread read2 lacking t waiting2)
        (sym u.same_spent)
        (run-order (lists found2) (has found2) (room - done) unread read2 lacking spent
        (u.children ++ waiting) waiting2
        (run-read (lists found) (has found) room unread read lacking spent p waiting r unknown
        untried allowed some fits most-of (lists found2) (has found2) u.said u.children done read2
        u.told u.cost u.fits (with-key (λ j. Adds j read read2) u.heard.reads) u.heard.found_now
        u.heard.stays u.heard.kept) u.heard.met)))

    pub run-visit : IsVisit tells costs exceeds lists has p k allowed done found found2 unread
        unread2 read read2 lacking lacking2 spent spent2 waiting waiting2
        → After found2 done unread2 read2 lacking2 spent2 waiting2
    run-visit (inl u) = left-then u
    run-visit (inr (inl u)) = cut-then u
    run-visit (inr (inr u)) = read-then u

  -- what was spent on a key and what may be spent is within the limit
  pub run-fits : (lists has : X → Type 0) (room : ℕ) (unread : List (Left P))
      (read lacking : List ℕ → Bool) (spent : List ℕ → ℕ) (waiting : List P) (k : List ℕ)
      (allowed : ℕ) → Run lists has room unread read lacking spent waiting → allowed ≤ room
      → spent k + allowed ≤ limit
  run-fits lists has room unread read lacking spent waiting k allowed r fits = omega (
    arith,
    fits,
    r.counts k,
    spent-fits key r.cuts k,
    r.exact,
  )

  -- ---- none waits
  module _ (lists has : X → Type 0) (room : ℕ) (unread : List (Left P))
      (read lacking : List ℕ → Bool) (spent : List ℕ → ℕ)
      (r : Run lists has room unread read lacking spent []) where
    abbrev places : List P
    places = places_settled r.reads unread

    order : IsPermutation (places_told first.place r.reads) (places ++ r.passed)
    order = subst (λ (l : List P). IsPermutation (places_told first.place r.reads) (places ++ l))
        (append-nil r.passed) r.split

    abbrev IsClosed : P → Type 0
    IsClosed c = HasKey key (places_read r.reads) (key c) ⊎ Contains (places_left unread) c

    -- a place that was told was left, or one with its key was read
    told-closed : (p : P) → Contains (places_told first.place r.reads) p → IsClosed p
    told-closed p c = elim (Contains-append_cases places r.passed p
        (Contains-permutation (places_told first.place r.reads) (places ++ r.passed) p order c)) [
          | inl here ↦ (elim (Contains-append_cases (places_read r.reads) (places_left unread) p
              here) [
                | inl done ↦ inl (p, done, refl)
                | inr left ↦ inr left
              ])
          | inr over ↦ inl (All-contains (λ q. HasKey key (places_read r.reads) (key q)) r.passed p
              r.over over)
        ]

    child-told : (s : Read P X) → Contains r.reads s → (c : P) → Contains s.children c
        → Contains (places_told first.place r.reads) c
    child-told s i c h = contains-rest first.place c (flat_map (λ s. s.children) r.reads)
        (contains-flat (λ (s : Read P X). s.children) r.reads s c i h)

    pub run-ended : IsWalk tells costs exceeds key listed lists had has first limit unread
    run-ended = record {
      reads = r.reads;
      begun = r.begun;
      told = r.told;
      cost = r.cost;
      once = AllPairs-from_IsDistinct bytes_eq-Decides (map key (places_read r.reads))
          r.once.distinct;
      passed = r.passed;
      over = r.over;
      fresh = All-weaker (λ u. ¬ IsTrue (read (key u.place)))
          (λ u. ¬ HasKey key (places_read r.reads) (key u.place))
          (λ u h w. h ((r.once.keyed (key u.place)).1 w)) unread r.fresh;
      split = order;
      met = all-front (IsMet first.place r.reads) places r.passed
          (All-permutation (IsMet first.place r.reads) (places_told first.place r.reads)
          (places ++ r.passed) order r.reached);
      closed = all-of (λ s. All IsClosed s.children) r.reads (λ s i.
          all-of IsClosed s.children (λ c h. told-closed c (child-told s i c h)));
      found = r.found;
      kept = r.kept;
      stays = r.stays;
      cuts = r.cuts;
      cut = r.cut;
      cut_met = r.cut_met;
      within = omega (arith, r.exact);
      full = All-weaker (λ u. u.why ≡ Limit → room ≡ 0)
          (λ u. u.why ≡ Limit → total r.reads unread r.cuts ≡ limit)
          (λ u h l. omega (arith, r.exact, h l)) unread r.full;
      small = r.small;
      rooms = r.rooms;
      left = r.left;
      whole = still-whole unread (room ≡ 0) (total r.reads unread r.cuts ≡ limit) r.cuts
          (λ z. omega (arith, r.exact, z)) r.whole;
      wasted = r.wasted;
      tried = r.tried;
      lacked = All-weaker (λ u. (u.why ≡ Memory) ↔ IsTrue (lacking (key u.place)))
          (λ u. (u.why ≡ Memory) ↔ HasLacked key unread (key u.place))
          (λ u h. (
            λ m. (r.lacks (key u.place)).0 (h.0 m),
            λ w. h.1 ((r.lacks (key u.place)).1 w),
          )) unread r.lacked;
      lacked_once = r.lacked_once;
    }
