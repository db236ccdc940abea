-- Walks from several certificates, one after the other.
use Rattle.std.proofs.Common.{◌≡◌, ◌≢◌, ℕ, zero, suc, ◌+◌, ◌<◌, ◌≤◌, Bool, List, [], ◌∷◌}
use Rattle.std.proofs.Common.{◌++◌, length, map, replicate, Some, IsFalse, refl, sym}
use Rattle.std.proofs.Common.{ap}
use Rattle.std.proofs.Common.{◌∙◌, subst, inl, inr, ◌⊎◌, arith}
use Rattle.std.specs.Prelude.{slice_get, slice_index}
use Rattle.std.proofs.lemmas.Bool.{cases_eq}
use Rattle.std.proofs.lemmas.List.{map-append}
use Rattle.rpki_paths.specs.declared.walker.Path.{Path}
use Rattle.rpki_paths.specs.declared.walker.PathFault.{PathFault}
use Rattle.rpki_paths.specs.declared.walker.PathFault.TheVariants.{NoValidIssuer, Returns, Revoked}
use Rattle.rpki_paths.specs.declared.walker.PathFault.TheVariants.{NotCovered}
use Rattle.rpki_paths.specs.declared.walker.PathFault.TheVariants.{Memory as OutOfMemory}
use Rattle.rpki_paths.specs.declared.walks.WalksFault.TheVariants.{NoPath, Unused, Memory}
use Rattle.rpki_paths.specs.Cert.{Cert, IsIn, at_place}
use Rattle.rpki_paths.specs.Path.{IsOff, IsPath, IsLinkCovered, IsDistinct}
use Rattle.rpki_paths.specs.Anchor.{Supply}
use Rattle.rpki_paths.specs.Walk.{AreFirst, IsRefused, IsWalked, KeepsVisited}
use Rattle.rpki_paths.specs.Grant.{ArePaths, IsUsed}
use Rattle.rpki_paths.specs.Kept.{IsUnder, IsKept, AreKept, AreWalked, AreRefused, walks_fault}
use Rattle.rpki_paths.specs.Kept.{AreFirstOnEach}
use Rattle.rpki_paths.specs.Laws.{RefusedHasNoPaths}
use Rattle.rpki_paths.proofs.Chains.{unique}
use Rattle.rpki_paths.proofs.Walking.{in-get, get-lt, get-in, refused_has_no_path}

-- ---- lists that grow at the end

in-front : {A : Type 0} (x : A) (xs ys : List A) → IsIn x xs → IsIn x (xs ++ ys)
in-front x [] ys i = absurd i
in-front x (z ∷ xs) ys (inl e) = inl e
in-front x (z ∷ xs) ys (inr i) = inr (in-front x xs ys i)

pub in-last : {A : Type 0} (x : A) (xs ys : List A) → IsIn x (xs ++ x ∷ ys)
in-last x [] ys = inl refl
in-last x (z ∷ xs) ys = inr (in-last x xs ys)

pub in-more : {A : Type 0} (x y : A) (xs : List A) → IsIn x (xs ++ y ∷ []) → IsIn x xs ⊎ (x ≡ y)
in-more x y [] (inl e) = inr e
in-more x y [] (inr i) = absurd i
in-more x y (z ∷ xs) (inl e) = inl (inl e)
in-more x y (z ∷ xs) (inr i) = elim (in-more x y xs i) [ inl j ↦ inl (inr j) | inr e ↦ inr e ]

zeros : (n k : ℕ) → slice_index (replicate n 0) k ≡ 0
zeros zero k = refl
zeros (suc n) zero = refl
zeros (suc n) (suc k) = zeros n k

module _ {C : Type 0} (cert : C → Cert) (cas : List Cert) where
  paths-more : (es : List C) (e : C) (paths : List (List Cert)) (p : List Cert)
      → ArePaths cas (map cert es) paths → IsPath cas (at_place 0 (cert e)) p → IsLinkCovered p
      → ArePaths cas (map cert (es ++ e ∷ [])) (paths ++ p ∷ [])
  paths-more [] e [] p h path cov = (path, cov, tt)
  paths-more [] e (q ∷ paths) p h path cov = absurd h
  paths-more (x ∷ es) e [] p h path cov = absurd h
  paths-more (x ∷ es) e (q ∷ paths) p h path cov =
      (h.0, h.1, paths-more es e paths p h.2 path cov)

  kept-more : (supplies : List Supply) (kept : List (Path C)) (k : Path C)
      (paths : List (List Cert)) (p : List Cert) → AreKept cert supplies kept paths
      → IsKept cert supplies k p → AreKept cert supplies (kept ++ k ∷ []) (paths ++ p ∷ [])
  kept-more supplies [] k [] p h i = (i, tt)
  kept-more supplies [] k (q ∷ paths) p h i = absurd h
  kept-more supplies (l ∷ kept) k [] p h i = absurd h
  kept-more supplies (l ∷ kept) k (q ∷ paths) p h i =
      (h.0, kept-more supplies kept k paths p h.1 i)

  -- ---- in the middle

  -- The certificates so far have paths. A CA that stands on one of them is visited by a number that
  -- is not 0, and no number is above that of the last walk.
  pub record IsWalkingEach (ees : List C) (kept : List (Path C)) (visited : List ℕ) (turn : ℕ) :
      Type 0 where
    pub paths : List (List Cert)
    pub stand : ArePaths cas (map cert ees) paths
    pub first : AreFirstOnEach cas paths
    pub are_kept : AreKept cert [] kept paths
    pub on : (k : ℕ) (d : Cert) → slice_get cas k ≡ Some d → slice_index visited k ≢ 0
        → IsUsed d paths
    pub off : (k : ℕ) (d : Cert) → slice_get cas k ≡ Some d → slice_index visited k ≡ 0
        → (p : List Cert) → IsIn p paths → IsOff d p
    pub small : (k : ℕ) → slice_index visited k ≤ turn

  pub each-none : (ees : List C) (kept : List (Path C)) (visited : List ℕ) (n : ℕ) → ees ≡ []
      → kept ≡ [] → visited ≡ replicate n 0 → IsWalkingEach ees kept visited 0
  each-none ees kept visited n none empty e =
      let zero_at : (k : ℕ) → slice_index visited k ≡ 0 =
      λ k. ap (λ m. slice_index m k) e ∙ zeros n k in
      record {
        paths = [];
        stand = subst (λ l. ArePaths cas (map cert l) []) (sym none) tt;
        first = λ p i. absurd i;
        are_kept = subst (λ l. AreKept cert [] l []) (sym empty) tt;
        on = λ k d at_k ne. absurd (ne (zero_at k));
        off = λ k d at_k z p i. absurd i;
        small = λ k. omega (arith, zero_at k);
      }

  module _ (ees : List C) (kept : List (Path C)) (visited : List ℕ) (turn : ℕ)
      (w : IsWalkingEach ees kept visited turn) where
    -- the walk from one more
    pub each-more : (all : List C) (e : C) (path : Path C) (longer : List (Path C))
        (new : List ℕ) → all ≡ ees ++ e ∷ [] → longer ≡ kept ++ path ∷ []
        → IsWalked cas (at_place 0 (cert e)) (at_place path.place (cert path.head)) path.sets new
        (turn + 1) → IsFalse path.anchored → KeepsVisited (turn + 1) visited new
        → IsWalkingEach all longer new (turn + 1)
    each-more all e path longer new more put walked open_path keeps =
        let p = at_place path.place (cert path.head) ∷ walked.below in
        let here : IsKept cert [] path p =
        record {
          below = walked.below;
          whole = refl;
          under = subst (λ (b : Bool). IsUnder p [] path.sets b) (sym open_path)
              ((λ s i. absurd i), walked.stands);
        } in
        record {
          paths = w.paths ++ p ∷ [];
          stand = subst (λ l. ArePaths cas (map cert l) (w.paths ++ p ∷ [])) (sym more)
              (paths-more ees e w.paths p w.stand walked.path walked.covered);
          first = λ q i. elim (in-more q p w.paths i) [
            | inl j ↦ w.first q j
            | inr same ↦ subst (λ z. AreFirst cas z) (sym same) walked.first
          ];
          are_kept = subst (λ l. AreKept cert [] l (w.paths ++ p ∷ [])) (sym put)
              (kept-more [] kept path w.paths p w.are_kept here);
          on = λ k d at_k ne. elim (cases_eq (slice_index new k) (turn + 1)) [
            | inl same ↦ (p, in-last p w.paths [], walked.visits.on k d at_k same)
            | inr differ ↦
                (let t = w.on k d at_k (λ z. ne (keeps k differ ∙ z)) in
                (t.0, in-front t.0 w.paths (p ∷ []) t.1, t.2))
          ];
          off = λ k d at_k z q i.
              (let differ : ¬ (slice_index new k ≡ turn + 1) =
              λ s. absurd (omega (arith, z, s)) in
              elim (in-more q p w.paths i) [
                | inl j ↦ w.off k d at_k (sym (keeps k differ) ∙ z) q j
                | inr same ↦ subst (λ l. IsOff d l) (sym same)
                    (walked.visits.off k d at_k differ)
              ]);
          small = λ k. elim (cases_eq (slice_index new k) (turn + 1)) [
            | inl same ↦ omega (arith, same)
            | inr differ ↦ omega (arith, keeps k differ, w.small k)
          ];
        }

    pub each-fresh : (k : ℕ) → ¬ (slice_index visited k ≡ turn + 1)
    each-fresh k e = omega (arith, w.small k, e)

    -- one that has no path
    module _ (all : List C) (e : C) (more : List C) (parts : ees ++ e ∷ more ≡ all) where
      no-path : (fault : PathFault) → IsRefused fault cas (at_place 0 (cert e))
          → ¬ (fault ≡ OutOfMemory) → AreRefused (NoPath fault) cas (map cert all)
      no-path fault r other = record {
        done = map cert ees;
        ee = cert e;
        more = map cert more;
        paths = w.paths;
        parts = ap (map cert) (sym parts) ∙ map-append cert ees (e ∷ more);
        stand = w.stand;
        first = w.first;
        refused = r;
        not_memory = other;
      }

      pub each-refused : (fault : PathFault) → IsRefused fault cas (at_place 0 (cert e))
          → AreRefused (walks_fault fault) cas (map cert all)
      each-refused NoValidIssuer r = no-path NoValidIssuer r (λ f. cc)
      each-refused Returns r = no-path Returns r (λ f. cc)
      each-refused Revoked r = no-path Revoked r (λ f. cc)
      each-refused (NotCovered family) r = no-path (NotCovered family) r (λ f. cc)
      each-refused OutOfMemory r = tt

    -- a CA that stands on none
    pub each-unused : (all : List C) (place : ℕ) → ees ≡ all → place < length cas
        → slice_index visited place ≡ 0 → ((k : ℕ) → k < place → slice_index visited k ≢ 0)
        → AreRefused (Unused place) cas (map cert all)
    each-unused all place e lt z before =
        let t = some-at cas place lt in
        record {
          paths = w.paths;
          ca = t.0;
          stand = subst (λ l. ArePaths cas (map cert l) w.paths) e w.stand;
          first = w.first;
          at_index = t.1;
          unused = λ u. u.2 (w.off place t.0 t.1 z u.0 u.1);
          before = λ k d less at_k. w.on k d at_k (before k less);
        }
      where
        some-at : (xs : List Cert) (k : ℕ) → k < length xs
            → (x : Cert) × (slice_get xs k ≡ Some x)
        some-at [] k l = absurd (omega (arith, l))
        some-at (x ∷ xs) zero l = (x, refl)
        some-at (x ∷ xs) (suc k) l = some-at xs k (omega (arith, l))

    pub each-done : (all : List C) → ees ≡ all → length visited ≡ length cas
        → ((k : ℕ) → k < length visited → slice_index visited k ≢ 0)
        → AreWalked cert cas (map cert all) kept
    each-done all e len none = record {
      paths = w.paths;
      stand = subst (λ l. ArePaths cas (map cert l) w.paths) e w.stand;
      first = w.first;
      used = λ d i.
          (let t = in-get cas d i in
          let lt = get-lt cas t.0 d t.1 in
          w.on t.0 d t.1 (none t.0 (omega (arith, lt, len))));
      are_kept = w.are_kept;
    }

-- ---- refused walks have no paths

-- with distinct identifiers there is one list of paths
same-paths : (cas ees : List Cert) (ps qs : List (List Cert)) → IsDistinct cas
    → ArePaths cas ees ps → ArePaths cas ees qs → ps ≡ qs
same-paths cas [] [] [] dist h k = refl
same-paths cas [] [] (q ∷ qs) dist h k = absurd k
same-paths cas [] (p ∷ ps) qs dist h k = absurd h
same-paths cas (e ∷ ees) [] qs dist h k = absurd h
same-paths cas (e ∷ ees) (p ∷ ps) [] dist h k = absurd k
same-paths cas (e ∷ ees) (p ∷ ps) (q ∷ qs) dist h k =
    ap (λ x. x ∷ ps) (unique cas (at_place 0 e) p q dist h.0 k.0)
    ∙ ap (λ l. q ∷ l) (same-paths cas ees ps qs dist h.2 k.2)

path-of : (cas done : List Cert) (e : Cert) (more : List Cert) (paths : List (List Cert))
    → ArePaths cas (done ++ e ∷ more) paths
    → (p : List Cert) × IsPath cas (at_place 0 e) p × IsLinkCovered p
path-of cas [] e more [] h = absurd h
path-of cas [] e more (p ∷ paths) h = (p, h.0, h.1)
path-of cas (d ∷ done) e more [] h = absurd h
path-of cas (d ∷ done) e more (p ∷ paths) h = path-of cas done e more paths h.2

pub refused_has_no_paths : RefusedHasNoPaths
refused_has_no_paths (NoPath fault) cas ees paths other dist h stand used =
    let t = path-of cas h.done h.ee h.more paths
    (subst (λ l. ArePaths cas l paths) h.parts stand) in
    refused_has_no_path fault cas (at_place 0 h.ee) t.0 h.not_memory dist h.refused t.1 t.2
refused_has_no_paths (Unused place) cas ees paths other dist h stand used =
    h.unused (subst (λ l. IsUsed h.ca l) (same-paths cas ees paths h.paths dist stand h.stand)
    (used h.ca (get-in cas place h.ca h.at_index)))
refused_has_no_paths Memory cas ees paths other dist h stand used = other refl
