-- Any supplies, refused ones among them, go from what is kept of paths to what is kept then.
use Rattle.std.proofs.Common.{◌≡◌, ℕ, zero, suc, Bool, true, false, ◌||◌, List, [], ◌∷◌, ◌++◌}
use Rattle.std.proofs.Common.{length, map, Ok, Err, IsTrue, refl, sym, ap, ◌∙◌, subst}
use Rattle.std.proofs.Common.{Some, inl, inr, ◌⊎◌, arith, ◌≤◌, ◌<◌}
use Rattle.std.specs.Prelude.{slice_get}
use Rattle.std.proofs.lemmas.Bool.{and_parts}
use Rattle.std.proofs.lemmas.List.{append_assoc, append-nil}
use Rattle.std.proofs.lemmas.Option.{slice_get_within, same_Some}
use Rattle.rpki_faults.specs.declared.family.Family.{Family}
use Rattle.rpki_paths.specs.declared.path_resources.PathResources.{PathResources}
use Rattle.rpki_paths.specs.declared.walker.Path.{Path}
use Rattle.rpki_paths.specs.Cert.{Cert, IsIn, at_place}
use Rattle.rpki_paths.specs.Sets.{IsWithClaim, with_claim}
use Rattle.rpki_paths.specs.Path.{explicit_sets}
use Rattle.rpki_paths.specs.Anchor.{Supply, Takes, IsAnchored, supplied_claim, path_set}
use Rattle.rpki_paths.specs.Walk.{resources_in}
use Rattle.rpki_paths.specs.Kept.{IsUnder}
use Rattle.rpki_paths.specs.After.{FitsPath, IsAnchoredBySome, IsUnderSome, IsKeptBySome}
use Rattle.rpki_paths.specs.After.{AreKeptBySome, AreAnchoredBySome, KeepsNumbers}
use Rattle.rpki_paths.specs.Supplied.{IsSupplied}
use Rattle.rpki_paths.specs.Final.{some_has, all_anchored, IsWhole}
use Rattle.rpki_paths.specs.Grant.{union_of}
use Rattle.rpki_paths.specs.Laws.{EachKeepsSome, AllKeepSome, KeptIsKeptBySome}
use Rattle.rpki_paths.specs.Laws.{EndAfterRefusals, YesAfterRefusals}
use Rattle.rpki_paths.proofs.Meets.{anchored-stands}
use Rattle.rpki_paths.proofs.Keeps.{takes-kept}
use Rattle.rpki_paths.proofs.Walking.{in-each}
use Rattle.rpki_paths.proofs.Finals.{family-is-meet}
use Rattle.rpki_paths.proofs.Granting.{walks_are_accepted}

-- ---- from the first that is meant to some that is meant and takes

in-front : (supplies more : List Supply) (s : Supply) → IsIn s supplies → IsIn s (supplies ++ more)
in-front [] more s i = absurd i
in-front (t ∷ supplies) more s (inl e) = inl e
in-front (t ∷ supplies) more s (inr i) = inr (in-front supplies more s i)

in-last : (supplies : List Supply) (s : Supply) → IsIn s (supplies ++ s ∷ [])
in-last [] s = inl refl
in-last (t ∷ supplies) s = inr (in-last supplies s)

anchored-is-some : (p : List Cert) (supplies : List Supply) (s : Supply) → IsAnchored p supplies s
    → IsAnchoredBySome p supplies s
anchored-is-some [] supplies s h = absurd h
anchored-is-some (head ∷ p) [] s h = absurd h
anchored-is-some (head ∷ p) (t ∷ supplies) s (inl h) = (
  inl h.2,
  subst (λ z. FitsPath (head ∷ p) z) (sym h.2) h.0,
  subst (λ z. Takes (head ∷ p) z) (sym h.2) h.1,
)
anchored-is-some (head ∷ p) (t ∷ supplies) s (inr h) =
    let w = anchored-is-some (head ∷ p) supplies s h.1 in (inr w.0, w.1, w.2)

under-is-some : (p : List Cert) (supplies : List Supply) (sets : PathResources) (b : Bool)
    → IsUnder p supplies sets b → IsUnderSome p supplies sets b
under-is-some p supplies sets true u = (u.0, anchored-is-some p supplies u.0 u.1, u.2)
under-is-some p supplies sets false u = u.1

under-more : (p : List Cert) (supplies more : List Supply) (sets : PathResources) (b : Bool)
    → IsUnderSome p supplies sets b → IsUnderSome p (supplies ++ more) sets b
under-more p supplies more sets true u =
    (u.0, (in-front supplies more u.0 u.1.0, u.1.1, u.1.2), u.2)
under-more p supplies more sets false u = u

module _ {C : Type 0} (cert : C → Cert) where
  pub kept_is_kept_by_some : KeptIsKeptBySome cert
  kept_is_kept_by_some supplies [] [] h = tt
  kept_is_kept_by_some supplies [] (p ∷ paths) h = absurd h
  kept_is_kept_by_some supplies (k ∷ kept) [] h = absurd h
  kept_is_kept_by_some supplies (k ∷ kept) (p ∷ paths) h = (
    record {
      below = h.0.below;
      whole = h.0.whole;
      under = under-is-some p supplies k.sets k.anchored h.0.under;
    },
    kept_is_kept_by_some supplies kept paths h.1,
  )

  -- ---- one supply more

  module _ (supplies : List Supply) (s : Supply) where
    stays : (k q : Path C) (p : List Cert) → IsKeptBySome cert supplies k p → q ≡ k
        → IsKeptBySome cert (supplies ++ s ∷ []) q p
    stays k q p h e =
        subst (λ (z : Path C). IsKeptBySome cert (supplies ++ s ∷ []) z p) (sym e) (record {
          below = h.below;
          whole = h.whole;
          under = under-more p supplies (s ∷ []) k.sets k.anchored h.under;
        })

    supplied : (k q : Path C) (p : List Cert) → IsKeptBySome cert supplies k p
        → IsSupplied cert s k q → IsKeptBySome cert (supplies ++ s ∷ []) q p
    supplied k q p h (inl passed) = stays k q p h passed.1
    supplied k q p h (inr t) =
        let head = at_place k.place (cert k.head) in
        let u : IsUnderSome (head ∷ h.below) supplies k.sets false =
        subst (λ (a : Bool). IsUnderSome (head ∷ h.below) supplies k.sets a) t.open_path
        (subst (λ l. IsUnderSome l supplies k.sets k.anchored) h.whole h.under) in
        let takes : Takes (head ∷ h.below) s = (takes-kept cert k h.below s u).0 t.takes in
        let new : IsUnderSome (head ∷ h.below) (supplies ++ s ∷ []) q.sets true = (
          s,
          (in-last supplies s, t.meant, takes),
          λ f. anchored-stands head h.below s f (resources_in k.sets f) (resources_in q.sets f)
              (u f) takes (in-each (λ g. IsWithClaim (λ n. n) (cert k.head).overclaim
              (resources_in k.sets g)
              (supplied_claim s g) (resources_in q.sets g)) t.resources f),
        ) in
        record {
          below = h.below;
          whole = h.whole
              ∙ ap (λ (n : ℕ). at_place n (cert k.head) ∷ h.below) (sym t.place)
              ∙ ap (λ (c : C). at_place q.place (cert c) ∷ h.below) (sym t.head);
          under = subst (λ (b : Bool). IsUnderSome p (supplies ++ s ∷ []) q.sets b)
              (sym t.anchored)
              (subst (λ l. IsUnderSome l (supplies ++ s ∷ []) q.sets true) (sym h.whole) new);
        }

    each-keeps : (old new : List (Path C)) (paths : List (List Cert))
        → AreKeptBySome cert supplies old paths → length new ≡ length old
        → ((k : ℕ) (x y : Path C) → slice_get old k ≡ Some x → slice_get new k ≡ Some y
        → IsSupplied cert s x y ⊎ (y ≡ x)) → AreKeptBySome cert (supplies ++ s ∷ []) new paths
    each-keeps [] [] [] h e each = tt
    each-keeps [] [] (p ∷ paths) h e each = absurd h
    each-keeps [] (y ∷ new) paths h e each = absurd (omega (arith, e))
    each-keeps (x ∷ old) [] paths h e each = absurd (omega (arith, e))
    each-keeps (x ∷ old) (y ∷ new) [] h e each = absurd h
    each-keeps (x ∷ old) (y ∷ new) (p ∷ paths) h e each = (
      elim (each zero x y refl refl) [
        | inl t ↦ supplied x y p h.0 t
        | inr same ↦ stays x y p h.0 same
      ],
      each-keeps old new paths h.1 (omega (arith, e)) (λ k. each (suc k)),
    )

  -- ---- what is kept of paths that are all anchored

  anchors-some : (supplies : List Supply) (kept : List (Path C)) (paths : List (List Cert))
      → AreKeptBySome cert supplies kept paths → IsTrue (all_anchored kept)
      → (anchors : List Supply) × AreAnchoredBySome paths supplies anchors
      × ((f : Family) (n : ℕ) → some_has kept f n ≡ union_of paths anchors f n)
  anchors-some supplies [] [] h e = ([], tt, λ f n. refl)
  anchors-some supplies [] (p ∷ paths) h e = absurd h
  anchors-some supplies (k ∷ kept) [] h e = absurd h
  anchors-some supplies (k ∷ kept) (p ∷ paths) h e =
      let parts = and_parts k.anchored (all_anchored kept) e in
      let u : IsUnderSome p supplies k.sets true =
      subst (λ (b : Bool). IsUnderSome p supplies k.sets b) parts.0 h.0.under in
      let rest = anchors-some supplies kept paths h.1 parts.1 in (
        u.0 ∷ rest.0,
        (u.1, rest.1),
        λ f n. ap (λ b. b || some_has kept f n)
            (family-is-meet (resources_in k.sets f)
            (with_claim (supplied_claim u.0 f) (explicit_sets p f))
            (u.2 f) n)
            ∙ ap (λ b. path_set p u.0 f n || b) (rest.2 f n),
      )

  pub keeps-numbers : (supplies : List Supply) (kept : List (Path C)) (paths : List (List Cert))
      → AreKeptBySome cert supplies kept paths → IsTrue (all_anchored kept)
      → KeepsNumbers kept paths supplies
  keeps-numbers supplies kept paths held d =
      let t = anchors-some supplies kept paths held d in
      record {
        anchors = t.0;
        anchored = t.1;
        whole = λ attested f. (
          (λ h n. h n ∙ t.2 f n),
          (λ h n. h n ∙ sym (t.2 f n)),
        );
      }

-- ---- supplies that are handed in

module _ {X C F : Type 0} (cert : C → Cert) (of : X → Supply) (refuses : X → C → F → Type 0) where
  pub each_keeps_some : EachKeepsSome cert of refuses
  each_keeps_some x supplies old new paths (Ok all) h kept =
      each-keeps cert supplies (of x) old new paths kept h.0.as_many
      (λ k a b e f. inl (h.0.below k a b (slice_get_within old k a e) e f))
  each_keeps_some x supplies old new paths (Err fault) h kept =
      each-keeps cert supplies (of x) old new paths kept h.4.as_many
      (λ k a b e f. elim (le-or-lt h.0 k) [
        | inl le ↦ inr (same_Some b a (sym f ∙ h.4.above k le ∙ e))
        | inr lt ↦ inl (h.4.below k a b lt e f)
      ])
    where
      le-or-lt : (i k : ℕ) → (i ≤ k) ⊎ (k < i)
      le-or-lt zero k = inl (omega arith)
      le-or-lt (suc i) zero = inr (omega arith)
      le-or-lt (suc i) (suc k) =
          elim (le-or-lt i k) [
            | inl le ↦ inl (omega (arith, le))
            | inr lt ↦ inr (omega (arith, lt))
          ]

  pub all_keep_some : AllKeepSome cert of refuses
  all_keep_some [] supplies old new paths h kept =
      subst (λ l. AreKeptBySome cert l new paths) (sym (append-nil supplies))
      (subst (λ l. AreKeptBySome cert supplies l paths) (sym h) kept)
  all_keep_some (x ∷ xs) supplies old new paths h kept =
      subst (λ l. AreKeptBySome cert l new paths) (append_assoc supplies (of x ∷ []) (map of xs))
      (all_keep_some xs (supplies ++ of x ∷ []) h.0 new paths h.3
      (each_keeps_some x supplies old h.0 paths h.1 h.2 kept))

  pub yes_after_refusals : YesAfterRefusals cert of refuses
  yes_after_refusals a ees crls walked kept xs attested valid m w after d =
      let held = all_keep_some xs [] walked kept w.paths after
      (kept_is_kept_by_some cert [] walked w.paths w.are_kept) in
      let t = anchors-some cert (map of xs) kept w.paths held d.0 in
      record {
        paths = w.paths;
        accepted = walks_are_accepted cert a ees crls walked valid m w;
        earned = record {
          anchors = t.0;
          anchored = t.1;
          equal = λ f n. in-each (IsWhole kept attested) d.1 f n ∙ t.2 f n;
        };
      }

  pub end_after_refusals : EndAfterRefusals cert of refuses
  end_after_refusals a ees crls walked kept xs valid m w after d =
      let held = all_keep_some xs [] walked kept w.paths after
      (kept_is_kept_by_some cert [] walked w.paths w.are_kept) in (
        w.paths,
        walks_are_accepted cert a ees crls walked valid m w,
        keeps-numbers cert (map of xs) kept w.paths held d,
      )
