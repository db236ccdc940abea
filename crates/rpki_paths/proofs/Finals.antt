-- What is kept of paths under supplies decides what they earn.
use Rattle.std.proofs.Common.{◌≡◌, ℕ, suc, ◌+◌, ◌<◌, ◌≤◌, Bool, true, false, ◌||◌, List, []}
use Rattle.std.proofs.Common.{◌∷◌, ◌++◌}
use Rattle.std.proofs.Common.{length, get_or, take, Option, None, Some, IsTrue, refl, sym, ap, ◌∙◌}
use Rattle.std.proofs.Common.{subst, inl, inr, arith}
use Rattle.std.proofs.Math.Bool.{or_assoc, or-true}
use Rattle.std.proofs.lemmas.Bool.{and_parts, or_cases, true≢false}
use Rattle.std.proofs.lemmas.List.Folds.{list_any-append, list_any_more}
use Rattle.rpki_resources.specs.declared.block.Block.{Block}
use Rattle.rpki_resources.specs.Blocks.{holds, within}
use Rattle.rpki_resources.proofs.Sets.Between.{between-high}
use Rattle.rpki_faults.specs.declared.family.Family.{Family}
use Rattle.rpki_paths.specs.declared.family_resources.FamilyResources.{FamilyResources}
use Rattle.rpki_paths.specs.declared.path_resources.PathResources.{PathResources}
use Rattle.rpki_paths.specs.declared.walker.Path.{Path}
use Rattle.rpki_paths.specs.Cert.{Cert, Numbers}
use Rattle.rpki_paths.specs.Sets.{meet, with_claim, StandsFor}
use Rattle.rpki_paths.specs.Path.{explicit_sets}
use Rattle.rpki_paths.specs.Anchor.{Supply, IsAnchored, path_set, supplied_claim}
use Rattle.rpki_paths.specs.Walk.{resources_in}
use Rattle.rpki_paths.specs.Grant.{AreAnchored, union_of}
use Rattle.rpki_paths.specs.Kept.{NoneFits, IsUnder, AreKept}
use Rattle.rpki_paths.specs.Final.{family_has, some_has, all_anchored, IsWhole}
use Rattle.rpki_paths.specs.Laws.{FinalIsDecided}
use Rattle.rpki_paths.proofs.Meets.{family-numbers}
use Rattle.rpki_paths.proofs.Grants.{same-anchor}
use Rattle.rpki_paths.proofs.Walking.{in-each, to-each}
use Rattle.rpki_paths.proofs.Supplies.{both}

-- ---- gathered numbers

-- some number is in no block
top : {T : Type 0} → (T → ℕ) → List (Block T) → ℕ
top f [] = 0
top f (b ∷ bs) = f b.max + top f bs

under-top : {T : Type 0} (f : T → ℕ) (bs : List (Block T)) (n : ℕ) → IsTrue (holds f bs n)
    → n ≤ top f bs
unfolding top
under-top f [] n h = absurd (true≢false (sym h))
under-top f (b ∷ bs) n h =
    elim (or_cases (within f n b) (holds f bs n) h) [
      | inl e ↦ omega (arith, between-high (f b.min) (f b.max) n e)
      | inr e ↦ omega (arith, under-top f bs n e)
    ]

pub not-all : {T : Type 0} (f : T → ℕ) (bs : List (Block T))
    → ¬ ((n : ℕ) → holds f bs n ≡ true)
not-all f bs h = let le = under-top f bs (suc (top f bs)) (h (suc (top f bs))) in omega (arith, le)

pub holds-more : {T : Type 0} (f : T → ℕ) (unknown : Bool) (xs ys all : List (Block T)) (n : ℕ)
    → all ≡ xs ++ ys → unknown || holds f all n ≡ (unknown || holds f xs n) || holds f ys n
holds-more f unknown xs ys all n e =
    ap (λ l. unknown || holds f l n) e
    ∙ ap (λ b. unknown || b) (list_any-append (within f n) xs ys)
    ∙ sym (or_assoc unknown (holds f xs n) (holds f ys n))

-- one path more is gathered
pub has-more : {C : Type 0} (paths : List (Path C)) (i : ℕ) (p : Path C) (f : Family) (n : ℕ)
    (old new : Bool) → i < length paths → p ≡ get_or paths i p
    → old ≡ some_has (take i paths) f n
    → new ≡ (old || family_has (λ k. k) (resources_in p.sets f) n)
    → new ≡ some_has (take (i + 1) paths) f n
has-more {C} paths i p f n old new lt at_i before more =
    more ∙ ap (λ b. b || family_has (λ k. k) (resources_in p.sets f) n) before
    ∙ ap (λ (q : Path C). some_has (take i paths) f n
    || family_has (λ k. k) (resources_in q.sets f) n) at_i
    ∙ sym (list_any_more (λ (q : Path C). family_has (λ k. k) (resources_in q.sets f) n)
    paths i p lt)

pub all-more : (a : Bool) → true ≡ a || true
all-more a = sym (or-true a)

-- ---- the resources of anchored paths

pub family-is-meet : (resources : Option (FamilyResources Numbers)) (sets : List Numbers)
    → StandsFor (λ n. n) resources sets → (n : ℕ)
    → family_has (λ k. k) resources n ≡ meet (λ k. k) sets n
family-is-meet None sets h n = ap (λ l. meet (λ k. k) l n) (sym h)
family-is-meet (Some resources) sets h n = family-numbers resources sets h n

none-anchors : (p : List Cert) (supplies : List Supply) (s : Supply) → NoneFits p supplies
    → ¬ (IsAnchored p supplies s)
none-anchors [] supplies s none h = none
none-anchors (head ∷ p) [] s none h = h
none-anchors (head ∷ p) (t ∷ supplies) s none (inl h) = none t (inl refl) h.0
none-anchors (head ∷ p) (t ∷ supplies) s none (inr h) =
    none-anchors (head ∷ p) supplies s (λ u i. none u (inr i)) h.1

anchored-true : (p : List Cert) (supplies : List Supply) (sets : PathResources) (b : Bool)
    (s : Supply) → IsUnder p supplies sets b → IsAnchored p supplies s → b ≡ true
anchored-true p supplies sets true s u h = refl
anchored-true p supplies sets false s u h = absurd (none-anchors p supplies s u.0 h)

module _ {C : Type 0} (cert : C → Cert) (supplies : List Supply) where
  all-from-anchors : (kept : List (Path C)) (paths : List (List Cert)) (anchors : List Supply)
      → AreKept cert supplies kept paths → AreAnchored paths supplies anchors
      → IsTrue (all_anchored kept)
  all-from-anchors [] [] anchors h a = refl
  all-from-anchors [] (p ∷ paths) anchors h a = absurd h
  all-from-anchors (k ∷ kept) [] anchors h a = absurd h
  all-from-anchors (k ∷ kept) (p ∷ paths) [] h a = absurd a
  all-from-anchors (k ∷ kept) (p ∷ paths) (s ∷ anchors) h a =
      both k.anchored (all_anchored kept)
      (anchored-true p supplies k.sets k.anchored s h.0.under a.0)
      (all-from-anchors kept paths anchors h.1 a.1)

  anchors-of : (kept : List (Path C)) (paths : List (List Cert))
      → AreKept cert supplies kept paths → IsTrue (all_anchored kept)
      → (anchors : List Supply) × AreAnchored paths supplies anchors
      × ((f : Family) (n : ℕ) → some_has kept f n ≡ union_of paths anchors f n)
  anchors-of [] [] h e = ([], tt, λ f n. refl)
  anchors-of [] (p ∷ paths) h e = absurd h
  anchors-of (k ∷ kept) [] h e = absurd h
  anchors-of (k ∷ kept) (p ∷ paths) h e =
      let parts = and_parts k.anchored (all_anchored kept) e in
      let u : IsUnder p supplies k.sets true =
      subst (λ (b : Bool). IsUnder p supplies k.sets b) parts.0 h.0.under in
      let rest = anchors-of kept paths h.1 parts.1 in (
        u.0 ∷ rest.0,
        (u.1, rest.1),
        λ f n. ap (λ b. b || some_has kept f n)
            (family-is-meet (resources_in k.sets f)
            (with_claim (supplied_claim u.0 f) (explicit_sets p f))
            (u.2 f) n)
            ∙ ap (λ b. path_set p u.0 f n || b) (rest.2 f n),
      )

  same-anchors : (paths : List (List Cert)) (ss ts : List Supply) → AreAnchored paths supplies ss
      → AreAnchored paths supplies ts → ss ≡ ts
  same-anchors [] [] [] h k = refl
  same-anchors [] [] (t ∷ ts) h k = absurd k
  same-anchors [] (s ∷ ss) ts h k = absurd h
  same-anchors (p ∷ paths) [] ts h k = absurd h
  same-anchors (p ∷ paths) (s ∷ ss) [] h k = absurd k
  same-anchors (p ∷ paths) (s ∷ ss) (t ∷ ts) h k =
      ap (λ x. x ∷ ss) (same-anchor p supplies s t h.0 k.0)
      ∙ ap (λ l. t ∷ l) (same-anchors paths ss ts h.1 k.1)

pub final_is_decided : {C : Type 0} (cert : C → Cert) → FinalIsDecided cert
final_is_decided cert supplies kept paths attested h = (
  λ e. (let all = all-from-anchors cert supplies kept paths e.anchors h e.anchored in
      let t = anchors-of cert supplies kept paths h all in (
        all,
        to-each (IsWhole kept attested) (λ f n. e.equal f n
            ∙ ap (λ l. union_of paths l f n)
            (same-anchors cert supplies paths e.anchors t.0 e.anchored t.1)
            ∙ sym (t.2 f n)),
      )),
  λ d. (let t = anchors-of cert supplies kept paths h d.0 in record {
    anchors = t.0;
    anchored = t.1;
    equal = λ f n. in-each (IsWhole kept attested) d.1 f n ∙ t.2 f n;
  }),
)
