-- Supplies go from what is kept of paths to what is kept of them then.
use Rattle.std.proofs.Common.{◌≡◌, ℕ, zero, suc, Bool, true, false, List, [], ◌∷◌, ◌++◌}
use Rattle.std.proofs.Common.{length, map, Ok, Err}
use Rattle.std.proofs.Common.{Some, IsTrue, refl, sym, ap, ◌∙◌, subst, inl, inr, ◌⊎◌, arith}
use Rattle.std.specs.Prelude.{slice_get, ◌↔◌}
use Rattle.std.proofs.lemmas.Bool.{true≢false}
use Rattle.std.proofs.lemmas.List.{append_assoc, append-nil}
use Rattle.std.proofs.lemmas.Option.{slice_get_within}
use Rattle.rpki_faults.specs.declared.family.Family.{Family}
use Rattle.rpki_paths.specs.declared.path_resources.PathResources.{PathResources}
use Rattle.rpki_paths.specs.declared.supply.SupplyFault.{SupplyFault}
use Rattle.rpki_paths.specs.declared.supply.SupplyFault.TheVariants.{NoAnchor, NotCovered, Memory}
use Rattle.rpki_paths.specs.declared.walker.Path.{Path}
use Rattle.rpki_paths.specs.Cert.{Cert, at_place}
use Rattle.rpki_paths.specs.Sets.{StandsFor, IsWithClaim}
use Rattle.rpki_paths.specs.Path.{explicit_sets}
use Rattle.rpki_paths.specs.Anchor.{Supply, Tal, Ca, Fits, Takes, IsAnchored, HasUnanchored}
use Rattle.rpki_paths.specs.Anchor.{supplied_claim}
use Rattle.rpki_paths.specs.Walk.{resources_in}
use Rattle.rpki_paths.specs.Kept.{NoneFits, IsUnder, IsKept, AreKept}
use Rattle.rpki_paths.specs.Supplied.{TakesKept, IsSupplied, IsDeclined, Declines, CoversPath}
use Rattle.rpki_paths.specs.Supplied.{AnswersEach, AreSuppliedAll}
use Rattle.rpki_paths.specs.Laws.{EachIsKept, DeclinedIsUnanchored, AllAreKept, RefusedIsUnanchored}
use Rattle.rpki_paths.proofs.Meets.{anchored-stands}
use Rattle.rpki_paths.proofs.Walking.{resources_tell_takes, in-each, fails-one}
use Rattle.rpki_paths.proofs.WalkingEach.{in-more}

-- ---- one supply more

anchored-front : (p : List Cert) (supplies more : List Supply) (s : Supply)
    → IsAnchored p supplies s → IsAnchored p (supplies ++ more) s
anchored-front [] supplies more s h = absurd h
anchored-front (head ∷ p) [] more s h = absurd h
anchored-front (head ∷ p) (t ∷ supplies) more s (inl h) = inl h
anchored-front (head ∷ p) (t ∷ supplies) more s (inr h) =
    inr (h.0, anchored-front (head ∷ p) supplies more s h.1)

anchored-last : (head : Cert) (p : List Cert) (supplies : List Supply) (s : Supply)
    → NoneFits (head ∷ p) supplies → Fits head s → Takes (head ∷ p) s
    → IsAnchored (head ∷ p) (supplies ++ s ∷ []) s
anchored-last head p [] s none fits takes = inl (fits, takes, refl)
anchored-last head p (t ∷ supplies) s none fits takes =
    inr (none t (inl refl), anchored-last head p supplies s (λ u i. none u (inr i)) fits takes)

never-anchored : (head : Cert) (p : List Cert) (supplies : List Supply) (s : Supply)
    (more : List Supply) (t : Supply) → NoneFits (head ∷ p) supplies → Fits head s
    → ¬ (Takes (head ∷ p) s) → ¬ (IsAnchored (head ∷ p) (supplies ++ s ∷ more) t)
never-anchored head p [] s more t none fits declined (inl h) = declined h.1
never-anchored head p [] s more t none fits declined (inr h) = h.0 fits
never-anchored head p (u ∷ supplies) s more t none fits declined (inl h) = none u (inl refl) h.0
never-anchored head p (u ∷ supplies) s more t none fits declined (inr h) =
    never-anchored head p supplies s more t (λ v i. none v (inr i)) fits declined h.1

under-passed : (head : Cert) (p : List Cert) (supplies : List Supply) (s : Supply)
    (sets : PathResources) (b : Bool) → IsUnder (head ∷ p) supplies sets b
    → IsTrue b ⊎ ¬ (Fits head s) → IsUnder (head ∷ p) (supplies ++ s ∷ []) sets b
under-passed head p supplies s sets true u why =
    (u.0, anchored-front (head ∷ p) supplies (s ∷ []) u.0 u.1, u.2)
under-passed head p supplies s sets false u (inl e) = absurd (true≢false (sym e))
under-passed head p supplies s sets false u (inr other) = (
  λ t i fits. elim (in-more t s supplies i) [
    | inl j ↦ u.0 t j fits
    | inr same ↦ other (subst (λ z. Fits head z) same fits)
  ],
  u.1,
)

module _ {C : Type 0} (cert : C → Cert) where
  pub takes-kept : (k : Path C) (p : List Cert) (s : Supply)
      → ((f : Family) → StandsFor (λ n. n) (resources_in k.sets f)
      (explicit_sets (at_place k.place (cert k.head) ∷ p) f))
      → TakesKept cert k s ↔ Takes (at_place k.place (cert k.head) ∷ p) s
  takes-kept k p (Tal key) stands = (λ h. h, λ h. h)
  takes-kept k p (Ca ski key sets) stands =
      resources_tell_takes (at_place k.place (cert k.head)) p k.sets ski key sets stands

  not-taken : {F : Type 0} (refuses : C → F → Type 0) (k : Path C) (s : Supply)
      (fault : SupplyFault F) → Declines cert refuses k s fault → ¬ (fault ≡ Memory)
      → ¬ (TakesKept cert k s)
  not-taken refuses k (Tal key) (NoAnchor fault) h other = h.0
  not-taken refuses k (Tal key) (NotCovered family) h other = absurd h
  not-taken refuses k (Tal key) Memory h other = absurd h
  not-taken refuses k (Ca ski key sets) (NoAnchor fault) h other = absurd h
  not-taken refuses k (Ca ski key sets) (NotCovered family) h other =
      λ takes. fails-one (CoversPath cert k sets) family h
      (in-each (CoversPath cert k sets) takes family)
  not-taken refuses k (Ca ski key sets) Memory h other = absurd (other refl)

  module _ (supplies : List Supply) (s : Supply) where
    -- what is kept before, by the head
    under-of : (k : Path C) (p : List Cert) (h : IsKept cert supplies k p) (b : Bool)
        → k.anchored ≡ b → IsUnder (at_place k.place (cert k.head) ∷ h.below) supplies k.sets b
    under-of k p h b e =
        subst (λ (a : Bool). IsUnder (at_place k.place (cert k.head) ∷ h.below) supplies k.sets a) e
        (subst (λ l. IsUnder l supplies k.sets k.anchored) h.whole h.under)

    kept-supplied : (k q : Path C) (p : List Cert) → IsKept cert supplies k p
        → IsSupplied cert s k q → IsKept cert (supplies ++ s ∷ []) q p
    kept-supplied k q p h (inl passed) =
        subst (λ (z : Path C). IsKept cert (supplies ++ s ∷ []) z p) (sym passed.1) (record {
          below = h.below;
          whole = h.whole;
          under = subst (λ l. IsUnder l (supplies ++ s ∷ []) k.sets k.anchored) (sym h.whole)
              (under-passed (at_place k.place (cert k.head)) h.below supplies s k.sets k.anchored
              (under-of k p h k.anchored refl) passed.0);
        })
    kept-supplied k q p h (inr t) =
        let head = at_place k.place (cert k.head) in
        let u : IsUnder (head ∷ h.below) supplies k.sets false = under-of k p h false t.open_path in
        let takes : Takes (head ∷ h.below) s = (takes-kept k h.below s u.1).0 t.takes in
        let new : IsUnder (head ∷ h.below) (supplies ++ s ∷ []) q.sets true = (
          s,
          anchored-last head h.below supplies s u.0 t.meant takes,
          λ f. anchored-stands head h.below s f (resources_in k.sets f) (resources_in q.sets f)
              (u.1 f) takes (in-each (λ g. IsWithClaim (λ n. n) (cert k.head).overclaim
              (resources_in k.sets g)
              (supplied_claim s g) (resources_in q.sets g)) t.resources f),
        ) in
        record {
          below = h.below;
          whole = h.whole
              ∙ ap (λ (n : ℕ). at_place n (cert k.head) ∷ h.below) (sym t.place)
              ∙ ap (λ (c : C). at_place q.place (cert c) ∷ h.below) (sym t.head);
          under = subst (λ (b : Bool). IsUnder p (supplies ++ s ∷ []) q.sets b) (sym t.anchored)
              (subst (λ l. IsUnder l (supplies ++ s ∷ []) q.sets true) (sym h.whole) new);
        }

    pub kept-each : (old new : List (Path C)) (paths : List (List Cert))
        → AreKept cert supplies old paths → length new ≡ length old
        → ((k : ℕ) (x y : Path C) → slice_get old k ≡ Some x → slice_get new k ≡ Some y
        → IsSupplied cert s x y) → AreKept cert (supplies ++ s ∷ []) new paths
    kept-each [] [] [] h e each = tt
    kept-each [] [] (p ∷ paths) h e each = absurd h
    kept-each [] (y ∷ new) paths h e each = absurd (omega (arith, e))
    kept-each (x ∷ old) [] paths h e each = absurd (omega (arith, e))
    kept-each (x ∷ old) (y ∷ new) [] h e each = absurd h
    kept-each (x ∷ old) (y ∷ new) (p ∷ paths) h e each = (
      kept-supplied x y p h.0 (each zero x y refl refl),
      kept-each old new paths h.1 (omega (arith, e)) (λ k. each (suc k)),
    )

    -- a path that is meant and not taken is never anchored
    module _ {F : Type 0} (refuses : C → F → Type 0) where
      declined-stays : (k : Path C) (p : List Cert) (fault : SupplyFault F) (more : List Supply)
          (t : Supply) → IsKept cert supplies k p → IsDeclined cert refuses s k fault
          → ¬ (fault ≡ Memory) → ¬ (IsAnchored p (supplies ++ s ∷ more) t)
      declined-stays k p fault more t h d other anchored =
          let head = at_place k.place (cert k.head) in
          let u : IsUnder (head ∷ h.below) supplies k.sets false =
          under-of k p h false d.open_path in
          never-anchored head h.below supplies s more t u.0 d.meant
          (λ takes. not-taken refuses k s fault d.declines other
          ((takes-kept k h.below s u.1).1 takes))
          (subst (λ l. IsAnchored l (supplies ++ s ∷ more) t) h.whole anchored)

      pub declined-at : (i : ℕ) (old : List (Path C)) (paths : List (List Cert)) (k : Path C)
          (fault : SupplyFault F) (more : List Supply) → AreKept cert supplies old paths
          → slice_get old i ≡ Some k → IsDeclined cert refuses s k fault → ¬ (fault ≡ Memory)
          → HasUnanchored paths (supplies ++ s ∷ more)
      declined-at i [] paths k fault more h e d other = absurd cc
      declined-at i (x ∷ old) [] k fault more h e d other = absurd h
      declined-at zero (x ∷ old) (p ∷ paths) k fault more h e d other =
          let same : x ≡ k = cc in (
            p,
            inl refl,
            λ t. declined-stays k p fault more t
                (subst (λ (z : Path C). IsKept cert supplies z p) same h.0) d other,
          )
      declined-at (suc i) (x ∷ old) (p ∷ paths) k fault more h e d other =
          let t = declined-at i old paths k fault more h.1 e d other in (t.0, inr t.1, t.2)

-- ---- supplies that are handed in

module _ {X C F : Type 0} (cert : C → Cert) (of : X → Supply) (refuses : X → C → F → Type 0) where
  pub each_is_kept : EachIsKept cert of refuses
  each_is_kept x supplies old new paths all h kept =
      kept-each cert supplies (of x) old new paths kept h.0.as_many
      (λ k a b e f. h.0.below k a b (slice_get_within old k a e) e f)

  pub declined_is_unanchored : DeclinedIsUnanchored cert of refuses
  declined_is_unanchored x supplies more old new paths fault other h kept =
      declined-at cert supplies (of x) (refuses x) h.0 old paths h.1 fault more kept h.2 h.3 other

  pub all_are_kept : AllAreKept cert of refuses
  all_are_kept [] supplies old new paths h kept =
      subst (λ l. AreKept cert l new paths) (sym (append-nil supplies))
      (subst (λ l. AreKept cert supplies l paths) (sym h) kept)
  all_are_kept (x ∷ xs) supplies old new paths h kept =
      subst (λ l. AreKept cert l new paths) (append_assoc supplies (of x ∷ []) (map of xs))
      (all_are_kept xs (supplies ++ of x ∷ []) h.0 new paths h.3
      (each_is_kept x supplies old h.0 paths h.1 h.2 kept))

  pub refused_is_unanchored : RefusedIsUnanchored cert of refuses
  refused_is_unanchored [] supplies old new paths fault other h kept = absurd h
  refused_is_unanchored (x ∷ xs) supplies old new paths fault other (inl h) kept =
      declined_is_unanchored x supplies (map of xs) old new paths fault other h kept
  refused_is_unanchored (x ∷ xs) supplies old new paths fault other (inr h) kept =
      subst (λ l. HasUnanchored paths l) (append_assoc supplies (of x ∷ []) (map of xs))
      (refused_is_unanchored xs (supplies ++ of x ∷ []) h.0 new paths fault other h.3
      (each_is_kept x supplies old h.0 paths h.1 h.2 kept))

  -- one more is handed in
  pub all-more : (xs : List X) (x : X) (old mid new : List (Path C)) (all : Bool)
      → AreSuppliedAll cert of refuses xs old mid (Ok tt)
      → AnswersEach cert (refuses x) (of x) mid new (Ok all)
      → AreSuppliedAll cert of refuses (xs ++ x ∷ []) old new (Ok tt)
  all-more [] x old mid new all h a =
      (new, all, subst (λ l. AnswersEach cert (refuses x) (of x) l new (Ok all)) h a, refl)
  all-more (y ∷ xs) x old mid new all h a =
      (h.0, h.1, h.2, all-more xs x h.0 mid new all h.3 a)

  -- one declines a path
  pub all-stops : (xs : List X) (x : X) (more : List X) (old mid new : List (Path C))
      (fault : SupplyFault F) → AreSuppliedAll cert of refuses xs old mid (Ok tt)
      → AnswersEach cert (refuses x) (of x) mid new (Err fault)
      → AreSuppliedAll cert of refuses (xs ++ x ∷ more) old new (Err fault)
  all-stops [] x more old mid new fault h a =
      inl (subst (λ l. AnswersEach cert (refuses x) (of x) l new (Err fault)) h a)
  all-stops (y ∷ xs) x more old mid new fault h a =
      inr (h.0, h.1, h.2, all-stops xs x more h.0 mid new fault h.3 a)
