-- What holds between two turns of a walk, and so once the first place was read.
use Rattle.std.proofs.Common.{◌≡◌, ◌≢◌, ◌⊎◌, inl, inr, ℕ, ◌+◌, ◌-◌, ◌*◌, ◌<◌, ◌≤◌, List, [], ◌∷◌}
use Rattle.std.proofs.Common.{◌++◌, Bool, Contains, All, refl, sym, subst, arith}
use Rattle.std.specs.Prelude.{◌↔◌, IsTrue, IsPermutation, AllPairs, bytes_eq}
use Rattle.std.proofs.lemmas.List.{append-nil}
use Rattle.std.proofs.lemmas.List.Sums.{sum_by-cons}
use Rattle.std.proofs.lemmas.List.Elements.{All-nil, All-cons}
use Rattle.std.proofs.lemmas.List.Sorted.{IsPermutation-cons}
use Rattle.rpki_relying_party.specs.declared.walk.Why.TheVariants.{Limit, Memory}
use Rattle.rpki_relying_party.specs.Paths.{Leads}
use Rattle.rpki_relying_party.specs.Walk.{Read, Left, Try, IsMet, HasKey, IsSmall, HasLacked}
use Rattle.rpki_relying_party.specs.Walk.{IsLastTry, IsWholeTry, places_read, places_settled}
use Rattle.rpki_relying_party.specs.Walk.{places_told, spent_on, total, first_room}
use Rattle.rpki_relying_party.specs.Steps.{Adds, IsHeard}
use Rattle.rpki_relying_party.proofs.Lists.{nothing, all-of, contains-first, distinct-none}
use Rattle.rpki_relying_party.proofs.Settling.{AreKeyed, one-key}

-- ---- chains

-- a chain, and one child more
pub leads-on : {P : Type 0} (child : P → P → Type 0) (s q p : P) (path : List P)
    → Leads child s path q → child q p → Leads child s (path ++ p ∷ []) p
leads-on child s q p [] e c = (subst (λ (z : _). child z p) (sym e) c, refl)
leads-on child s q p (c ∷ path) h d = (h.0, leads-on child c q p path (h.1) d)

-- a chain by what is weaker
pub leads-weaker : {P : Type 0} (child child2 : P → P → Type 0)
    → ((p q : P) → child p q → child2 p q) → (path : List P) (p q : P) → Leads child p path q
    → Leads child2 p path q
leads-weaker child child2 f [] p q h = h
leads-weaker child child2 f (c ∷ path) p q h =
    (f p c (h.0), leads-weaker child child2 f path c q (h.1))

-- ---- the state between two turns: so much room is left, and these wait
pub record IsRun {P X : Type 0} (tells : P → List X → List P → Type 0)
    (costs exceeds : P → ℕ → Type 0) (key : P → List ℕ) (listed lists had has : X → Type 0)
    (first : Read P X) (limit room : ℕ) (unread : List (Left P)) (read lacking : List ℕ → Bool)
    (spent : List ℕ → ℕ) (waiting : List P) : Type 0 where
  pub reads : List (Read P X)
  pub begun : (rest : List (Read P X)) × (reads ≡ first ∷ rest)
  pub told : All (λ r. tells r.place r.said r.children) reads
  pub cost : All (λ r. costs r.place r.cost) reads
  pub once : AreKeyed key read (places_read reads)
  pub passed : List P
  pub over : All (λ p. HasKey key (places_read reads) (key p)) passed
  pub fresh : All (λ u. ¬ IsTrue (read (key u.place))) unread
  pub split : IsPermutation (places_told first.place reads)
      (places_settled reads unread ++ (passed ++ waiting))
  pub reached : All (IsMet first.place reads) (places_told first.place reads)
  pub found : (x : X) → lists x
      → listed x ⊎ ((r : Read P X) × Contains reads r × Contains r.said x)
  pub kept : All (λ r. All has r.said) reads
  pub stays : (x : X) → had x → has x
  pub cuts : List (Try P)
  pub cut : All (λ t. exceeds t.place t.room) cuts
  pub cut_met : All (λ t. IsMet first.place reads t.place) cuts
  pub counts : (k : List ℕ) → spent k ≡ spent_on key cuts k
  pub exact : total reads unread cuts + room ≡ limit
  pub full : All (λ u. u.why ≡ Limit → room ≡ 0) unread
  pub small : All (λ r. r.cost ≤ spent_on key cuts (key r.place) + first_room limit) (begun.0)
  pub rooms : All (λ t. 2 * t.room ≤ spent_on key cuts (key t.place) + first_room limit) cuts
  pub left : All (λ u. IsLastTry limit (spent_on key cuts (key u.place)) u.why u.tried) unread
  pub whole :
      All (λ u. IsWholeTry limit (room ≡ 0) (spent_on key cuts (key u.place)) u.tried) unread
  pub wasted : (k : List ℕ) → IsSmall key cuts 3 k (spent_on key cuts k)
  pub doubles : (room ≡ 0) ⊎ ((k : List ℕ) → IsSmall key cuts 2 k (spent_on key cuts k))
  pub tried : All (λ r. IsSmall key cuts 2 (key r.place) (spent_on key cuts (key r.place))) reads
  pub lacks : (k : List ℕ) → IsTrue (lacking k) ↔ HasLacked key unread k
  pub lacked : All (λ u. (u.why ≡ Memory) ↔ IsTrue (lacking (key u.place))) unread
  pub lacked_once :
      AllPairs (λ u v. 0 < u.tried → 0 < v.tried → key u.place ≢ key v.place) unread

-- ---- the first was read
module _ {P X F : Type 0} (tells : P → List X → List P → Type 0) (costs exceeds : P → ℕ → Type 0)
    (key : P → List ℕ) (lists has : F → X → Type 0) (found found2 : F) (first : Read P X)
    (limit : ℕ) (unread : List (Left P)) (none read lacking : List ℕ → Bool)
    (spent : List ℕ → ℕ) (empty waiting : List P) (k : List ℕ) where
  abbrev Begun : List (Left P) → Type 0
  Begun unread = IsRun tells costs exceeds key (lists found) (lists found2) (has found)
      (has found2) first limit (limit - first.cost) unread read lacking spent waiting

  module _ (its : k ≡ key first.place) (told : tells first.place first.said first.children)
      (cost : costs first.place first.cost) (fits : first.cost ≤ limit)
      (absent : (j : List ℕ) → ¬ IsTrue (none j)) (untried : (j : List ℕ) → ¬ IsTrue (lacking j))
      (unspent : (j : List ℕ) → spent j ≡ 0) (e : empty ≡ [])
      (h : IsHeard lists has k first.said first.children found found2 none read empty waiting)
    where
      abbrev reads1 : List (Read P X)
      reads1 = first ∷ []

      abbrev Untried : Read P X → Type 0
      Untried r = IsSmall key [] 2 (key r.place) (spent_on key [] (key r.place))

      met : IsPermutation (first.children ++ []) waiting
      met = subst (λ (l : List P). IsPermutation (first.children ++ l) waiting) e h.met

      first-met : (c : P) → Contains (first.children ++ []) c → IsMet first.place reads1 c
      first-met c i = (
        c ∷ [],
        (
          (
            first,
            contains-first first [],
            refl,
            subst (λ (l : List P). Contains l c) (append-nil first.children) i,
          ),
          refl,
        ),
      )

      begun : Begun []
      begun = record {
        reads = reads1;
        begun = ([], refl);
        told = All-cons (λ r. tells r.place r.said r.children) first [] told
            (All-nil (λ r. tells r.place r.said r.children));
        cost = All-cons (λ r. costs r.place r.cost) first [] cost
            (All-nil (λ r. costs r.place r.cost));
        once = one-key key none read [] first.place
            (record {
              distinct = distinct-none bytes_eq;
              keyed = λ j. (λ t. absurd (absent j t), λ w. absurd (nothing (w.0) (w.1)));
            })
            (absent (key first.place))
            (subst (λ (j : List ℕ). Adds j none read) its h.reads);
        passed = [];
        over = All-nil (λ p. HasKey key (places_read reads1) (key p));
        fresh = All-nil (λ u. ¬ IsTrue (read (key u.place)));
        split = IsPermutation-cons first.place (first.children ++ []) waiting met;
        reached = All-cons (IsMet first.place reads1) first.place (first.children ++ []) ([], refl)
            (all-of (IsMet first.place reads1) (first.children ++ []) first-met);
        found = λ x l. elim (h.found_now x l) [
          | inl old ↦ inl old
          | inr now ↦ inr (first, contains-first first [], now)
        ];
        kept = All-cons (λ r. All (has found2) r.said) first [] h.kept
            (All-nil (λ r. All (has found2) r.said));
        stays = h.stays;
        cuts = [];
        cut = All-nil (λ t. exceeds t.place t.room);
        cut_met = All-nil (λ t. IsMet first.place reads1 t.place);
        counts = unspent;
        exact = omega (arith, sum_by-cons (λ (r : Read P X). r.cost) first [], fits);
        full = All-nil (λ u. u.why ≡ Limit → limit - first.cost ≡ 0);
        small = All-nil (λ r. r.cost ≤ spent_on key [] (key r.place) + first_room limit);
        rooms = All-nil (λ t. 2 * t.room ≤ spent_on key [] (key t.place) + first_room limit);
        left = All-nil (λ u. IsLastTry limit (spent_on key [] (key u.place)) u.why u.tried);
        whole = All-nil (λ u. IsWholeTry limit (limit - first.cost ≡ 0)
            (spent_on key [] (key u.place)) u.tried);
        wasted = λ j. inl refl;
        doubles = inr (λ j. inl refl);
        tried = All-cons Untried first [] (inl refl) (All-nil Untried);
        lacks = λ j. (λ t. absurd (untried j t), λ w. absurd (nothing (w.0) (w.1)));
        lacked = All-nil (λ u. (u.why ≡ Memory) ↔ IsTrue (lacking (key u.place)));
        lacked_once = λ i j d lt within. absurd (omega (arith, within));
      }

      pub run-begun : unread ≡ [] → Begun unread
      run-begun u = subst Begun (sym u) begun
