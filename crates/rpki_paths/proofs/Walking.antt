-- The walk over carried CAs, step by step.
use Rattle.std.proofs.Common.{◌≡◌, ◌≢◌, ℕ, zero, suc, ◌+◌, ◌<◌, ◌≤◌, List, [], ◌∷◌, ◌++◌, length}
use Rattle.std.proofs.Common.{set}
use Rattle.std.proofs.Common.{Option, None, Some, IsTrue, IsFalse, refl, sym, ap, ◌∙◌, subst}
use Rattle.std.proofs.Common.{inl, inr}
use Rattle.std.proofs.Common.{arith, get_or-set_same, get_or-set_other}
use Rattle.std.proofs.Common.{get_or}
use Rattle.std.specs.Prelude.{slice_get, slice_index, Bool, option_map}
use Rattle.std.proofs.lemmas.Option.{slice_get-map, same_Some}
use Rattle.std.proofs.Common.{map}
use Rattle.std.proofs.lemmas.Bool.{true≢false, cases_eq, cases_lt}
use Rattle.rpki_resources.specs.declared.resources.Claim.{Claim}
use Rattle.rpki_resources.specs.declared.resources.Claim.TheVariants.{Explicit}
use Rattle.rpki_faults.specs.declared.family.Family.{Family}
use Rattle.rpki_faults.specs.declared.family.Family.TheVariants.{As, V4, V6}
use Rattle.rpki_faults.specs.declared.overclaim.Overclaim.{Overclaim}
use Rattle.rpki_faults.specs.declared.overclaim.Overclaim.TheVariants.{Refuse, Trim}
use Rattle.rpki_paths.specs.declared.family_resources.FamilyResources.{FamilyResources}
use Rattle.rpki_paths.specs.declared.path_resources.PathResources.{PathResources}
use Rattle.rpki_paths.specs.declared.walker.PathFault.{PathFault}
use Rattle.rpki_paths.specs.declared.walker.PathFault.TheVariants.{NoValidIssuer, Returns, Revoked}
use Rattle.rpki_paths.specs.declared.walker.PathFault.TheVariants.{NotCovered, Memory}
use Rattle.rpki_paths.specs.Cert.{Cert, Numbers, IsIn, IsSelfSigned}
use Rattle.rpki_paths.specs.Sets.{StandsFor, IsCovered, CoversNearest, IsWithClaim}
use Rattle.rpki_paths.specs.Path.{IsIssuedBy, IsOff, IsChain, HasNoIssuer, IsPath, IsDistinct}
use Rattle.rpki_paths.specs.Path.{IsLinkCovered, explicit_sets}
use Rattle.rpki_paths.specs.Walk.{FoundSays, resources_in, InEach, FailsFirst, IsNext, IsUnverified}
use Rattle.rpki_paths.specs.Cert.{at_place}
use Rattle.rpki_paths.specs.Walk.{IsReached, AreFirst, CoversIn, EndsWith, GoesOn, HasNext, placed}
use Rattle.rpki_paths.specs.Walk.{IsRefused, AreVisited, KeepsVisited, IsWalked}
use Rattle.rpki_paths.specs.declared.key_id_index.KeyIdIndex.{KeyIdIndex}
use Rattle.rpki_paths.specs.declared.walker.Found.TheVariants.{Issuer}
use Rattle.rpki_paths.specs.Index.{IsIndex, IsNamed, IsNamedBy, places_of}
use Rattle.rpki_paths.specs.Laws.{RefusedHasNoPath, ResourcesTellTakes}
use Rattle.rpki_paths.proofs.Indexing.{IsScan, scan-from-named}
use Rattle.rpki_paths.proofs.Chains.{same-issuer, path-above, short, in-map}
use Rattle.rpki_paths.proofs.Meets.{issuer-keeps, covers_nearest, from-covers_nearest}

-- ---- places

pub get-in : {A : Type 0} (xs : List A) (i : ℕ) (d : A) → slice_get xs i ≡ Some d → IsIn d xs
get-in [] i d e = absurd cc
get-in (x ∷ xs) zero d e = inl cc
get-in (x ∷ xs) (suc i) d e = inr (get-in xs i d e)

pub get-lt : {A : Type 0} (xs : List A) (i : ℕ) (d : A) → slice_get xs i ≡ Some d → i < length xs
get-lt [] i d e = absurd cc
get-lt (x ∷ xs) zero d e = omega arith
get-lt (x ∷ xs) (suc i) d e = omega (arith, get-lt xs i d e)

pub in-get : {A : Type 0} (xs : List A) (d : A) → IsIn d xs → (i : ℕ) × (slice_get xs i ≡ Some d)
in-get [] d h = absurd h
in-get (x ∷ xs) d (inl e) = (zero, ap Some (sym e))
in-get (x ∷ xs) d (inr h) = let t = in-get xs d h in (suc t.0, t.1)

pub get-placed : {C : Type 0} (cert : C → Cert) (k : ℕ) (xs : List C) (i : ℕ) (x : C)
    → i < length xs →
    x ≡ get_or xs i x → slice_get (placed cert k xs) i ≡ Some (at_place (i + k) (cert x))
get-placed cert k [] i x lt e = absurd (omega (arith, lt))
get-placed cert k (y ∷ xs) zero x lt e =
    ap (λ z. Some (at_place k (cert z))) (sym e)
    ∙ ap (λ n. Some (at_place n (cert x))) (let t : k ≡ 0 + k = omega arith in t)
get-placed cert k (y ∷ xs) (suc i) x lt e =
    get-placed cert (suc k) xs i x (omega (arith, lt)) e
    ∙ ap (λ n. Some (at_place n (cert x))) (let t : i + suc k ≡ suc i + k = omega arith in t)

pub length-placed : {C : Type 0} (cert : C → Cert) (k : ℕ) (xs : List C)
    → length (placed cert k xs) ≡ length xs
length-placed cert k [] = refl
length-placed cert k (x ∷ xs) = ap suc (length-placed cert (suc k) xs)

place-at : {C : Type 0} (cert : C → Cert) (k : ℕ) (xs : List C) (i : ℕ) (d : Cert)
    → slice_get (placed cert k xs) i ≡ Some d → d.place ≡ k + i
place-at cert k [] i d e = absurd cc
place-at cert k (x ∷ xs) zero d e =
    let f : at_place k (cert x) ≡ d = cc in
    let p : k ≡ d.place = ap (λ (z : Cert). z.place) f in omega (arith, p)
place-at cert k (x ∷ xs) (suc i) d e = let p = place-at cert (suc k) xs i d e in omega (arith, p)

-- the certificates are told apart by their places
abbrev pub AreApart : Cert → List Cert → Type 0
AreApart ee cas =
    ((i : ℕ) (d : Cert) → slice_get cas i ≡ Some d → d.place ≢ ee.place)
    × ((i j : ℕ) (c d : Cert) → slice_get cas i ≡ Some c → slice_get cas j ≡ Some d →
    c.place ≡ d.place → i ≡ j)

pub apart-placed : {C : Type 0} (cert : C → Cert) (ee : Cert) (xs : List C)
    → AreApart (at_place 0 ee) (placed cert 1 xs)
apart-placed cert ee xs = (
  λ i d e s. (let p = place-at cert 1 xs i d e in let z : d.place ≡ 0 = s in
      absurd (omega (arith, p, z))),
  λ i j c d e f s. omega (arith, place-at cert 1 xs i c e, place-at cert 1 xs j d f, s),
)

-- two CAs of one identifier are one, and have one place
pub same-index : (cas : List Cert) (i j : ℕ) (c d : Cert) → IsDistinct cas
    → slice_get cas i ≡ Some c → slice_get cas j ≡ Some d → c.ski ≡ d.ski → i ≡ j
same-index [] i j c d dist e f s = absurd cc
same-index (x ∷ cas) zero zero c d dist e f s = refl
same-index (x ∷ cas) zero (suc j) c d dist e f s =
    absurd (dist.0 (in-map cas d (x.ski) (get-in cas j d f)
    (ap (λ (z : Cert). z.ski) (same_Some x c e) ∙ s)))
same-index (x ∷ cas) (suc i) zero c d dist e f s =
    absurd (dist.0 (in-map cas c (x.ski) (get-in cas i c e)
    (ap (λ (z : Cert). z.ski) (same_Some x d f) ∙ sym s)))
same-index (x ∷ cas) (suc i) (suc j) c d dist e f s = ap suc (same-index cas i j c d dist.1 e f s)

-- the list has the places, from one on and below another, of the CAs with this identifier
abbrev pub IsCertScan : List Cert → Option (List ℕ) → ℕ → ℕ → List ℕ → Type 0
IsCertScan cas id from to [] =
    (j : ℕ) (x : Cert) → from ≤ j → j < to → slice_get cas j ≡ Some x → ¬ (id ≡ Some x.ski)
IsCertScan cas id from to (i ∷ places) =
    (from ≤ i) × (i < to) × ((x : Cert) × (slice_get cas i ≡ Some x) × (id ≡ Some x.ski))
    × ((j : ℕ) (x : Cert) → from ≤ j → j < i → slice_get cas j ≡ Some x → ¬ (id ≡ Some x.ski))
    × IsCertScan cas id (i + 1) to places

abbrev skis : List Cert → List (List ℕ)
skis cas = map (λ c. c.ski) cas

ski-at : (cas : List Cert) (id : List ℕ) (j : ℕ) (x : Cert) → slice_get cas j ≡ Some x
    → Some id ≡ Some x.ski → slice_get (skis cas) j ≡ Some id
ski-at cas id j x e n =
    slice_get-map (λ (c : Cert). c.ski) cas j ∙ ap (option_map (λ (c : Cert). c.ski)) e ∙ sym n

cert-at : (cas : List Cert) (id : List ℕ) (i : ℕ) → slice_get (skis cas) i ≡ Some id
    → (x : Cert) × (slice_get cas i ≡ Some x) × (Some id ≡ Some x.ski)
cert-at cas id i e = go (slice_get cas i) refl (sym (slice_get-map (λ (c : Cert). c.ski) cas i) ∙ e)
  where
    go : (o : Option Cert) → slice_get cas i ≡ o → option_map (λ (c : Cert). c.ski) o ≡ Some id
        → (x : Cert) × (slice_get cas i ≡ Some x) × (Some id ≡ Some x.ski)
    go None at_i f = absurd cc
    go (Some x) at_i f = (x, at_i, sym f)

cert-scan : (cas : List Cert) (id : List ℕ) (from to : ℕ) (places : List ℕ)
    → IsScan (skis cas) id from to places → IsCertScan cas (Some id) from to places
cert-scan cas id from to [] h = λ j x l lt e n. h j l lt (ski-at cas id j x e n)
cert-scan cas id from to (i ∷ places) h = (
  h.0,
  h.1,
  cert-at cas id i h.2,
  λ j x l lt e n. h.3 j l lt (ski-at cas id j x e n),
  cert-scan cas id (i + 1) to places h.4,
)

skis-placed : {C : Type 0} (cert : C → Cert) (k : ℕ) (cas : List C)
    → map (λ c. (cert c).ski) cas ≡ skis (placed cert k cas)
skis-placed cert k [] = refl
skis-placed cert k (c ∷ cas) = ap (λ l. (cert c).ski ∷ l) (skis-placed cert (suc k) cas)

length-skis : (cas : List Cert) → length (skis cas) ≡ length cas
length-skis [] = refl
length-skis (c ∷ cas) = ap suc (length-skis cas)

-- what the identifiers of the CAs say of the CAs
pub scan-of : {C : Type 0} (cert : C → Cert) (cas : List C) (aki : Option (List ℕ))
    (places : List ℕ) → IsNamedBy (map (λ c. (cert c).ski) cas) aki places
    → IsCertScan (placed cert 1 cas) aki 0 (length (placed cert 1 cas)) places
scan-of cert cas None places h =
    subst (λ l. IsCertScan (placed cert 1 cas) None 0 (length (placed cert 1 cas)) l) (sym h)
    (λ j x l lt e n. cc)
scan-of cert cas (Some id) places h =
    let ids = skis (placed cert 1 cas) in
    let named : IsNamed ids id places =
    subst (λ l. IsNamed l id places) (skis-placed cert 1 cas) h in
    cert-scan (placed cert 1 cas) id 0 (length (placed cert 1 cas)) places
    (subst (λ n. IsScan ids id 0 n places) (length-skis (placed cert 1 cas))
    (scan-from-named ids id places named))

-- with distinct identifiers one CA at most is named
pub named-once : (cas : List Cert) (id : Option (List ℕ)) (from to : ℕ) (places : List ℕ)
    → IsDistinct cas → IsCertScan cas id from to places → length places ≤ 1
named-once cas id from to [] dist h = omega arith
named-once cas id from to (i ∷ []) dist h = omega arith
named-once cas id from to (i ∷ (j ∷ places)) dist h =
    let a = h.2 in
    let b = h.4.2 in
    let same : i ≡ j = same-index cas i j a.0 b.0 dist a.1 b.1 (same_Some _ _ (sym a.2 ∙ b.2)) in
    absurd (omega (arith, same, h.4.0))

pub in-each : (P : Family → Type 0) → InEach P → (f : Family) → P f
in-each P h As = h.0
in-each P h V4 = h.1
in-each P h V6 = h.2

pub to-each : (P : Family → Type 0) → ((f : Family) → P f) → InEach P
to-each P h = (h As, h V4, h V6)

pub fails-first : (P Q : Family → Type 0) → ((f : Family) → P f → Q f) → ((f : Family) → Q f → P f)
    → (f : Family) → FailsFirst P f → FailsFirst Q f
fails-first P Q to from As h = λ q. h (from As q)
fails-first P Q to from V4 h = (to As h.0, λ q. h.1 (from V4 q))
fails-first P Q to from V6 h = (to As h.0, to V4 h.1, λ q. h.2 (from V6 q))

pub fails-one : (P : Family → Type 0) (f : Family) → FailsFirst P f → ¬ (P f)
fails-one P As h = h
fails-one P V4 h = h.1
fails-one P V6 h = h.2

-- ---- where a walk stops, no covered path goes on

covered-above : (r q : List Cert) → IsLinkCovered (r ++ q) → IsLinkCovered q
covered-above [] q l = l
covered-above (x ∷ []) [] l = tt
covered-above (x ∷ []) (y ∷ q) l = l.1
covered-above (x ∷ (y ∷ r)) q l = covered-above (y ∷ r) q l.1

continues : (cas : List Cert) (ee c d : Cert) (p q : List Cert) → IsDistinct cas
    → IsReached cas ee c p → IsIn d cas → c.aki ≡ Some d.ski → IsPath cas ee q → IsLinkCovered q →
    IsIssuedBy cas c d × IsOff d (c ∷ p)
    × ((f : Family) → IsCovered (λ n. n) c.overclaim (explicit_sets (c ∷ p) f) (d.claim f))
continues cas ee c d p q dist reached i e path cov =
    elim (path-above cas ee c p q dist reached.chain path) [
      | inl t ↦ absurd (reached.not_self_signed (t.1 d i e))
      | inr t ↦
          (let same : t.0 ≡ d = same-issuer cas c t.0 d dist t.2.carried i t.2.names_issuer e in
          let below = covered-above t.1 (t.0 ∷ (c ∷ p)) (subst (λ x. IsLinkCovered x) t.4 cov) in (
            subst (λ x. IsIssuedBy cas c x) same t.2,
            subst (λ x. IsOff x (c ∷ p)) same t.3,
            subst (λ x. (f : Family)
                → IsCovered (λ n. n) c.overclaim (explicit_sets (c ∷ p) f) (x.claim f))
                same below.0,
          ))
    ]

pub refused_has_no_path : RefusedHasNoPath
refused_has_no_path NoValidIssuer cas ee q other dist h path cov =
    let u = h.3 in
    let t = continues cas ee h.0 u.0.0 h.1 q dist h.2 u.0.1 u.0.2 path cov in
    true≢false (sym t.0.signed ∙ u.1 u.0.0 u.0.1 u.0.2)
refused_has_no_path Returns cas ee q other dist h path cov =
    let next = h.4 in
    h.5 (continues cas ee h.0 h.1 h.2 q dist h.3
    (get-in cas next.index h.1 next.at_index) next.named path cov).1
refused_has_no_path Revoked cas ee q other dist h path cov =
    let next = h.4 in
    true≢false (sym h.5.1
    ∙ (continues cas ee h.0 h.1 h.2 q dist h.3
    (get-in cas next.index h.1 next.at_index) next.named path cov).0.not_revoked)
refused_has_no_path (NotCovered family) cas ee q other dist h path cov =
    let next = h.4 in
    fails-one (λ f. IsCovered (λ n. n) h.0.overclaim (explicit_sets (h.0 ∷ h.2) f) (h.1.claim f))
    family h.5.2
    ((continues cas ee h.0 h.1 h.2 q dist h.3
    (get-in cas next.index h.1 next.at_index) next.named path cov).2 family)
refused_has_no_path Memory cas ee q other dist h path cov = other refl

-- ---- the search

-- what is left of the named places has all that may verify
pub record IsSearching (cas : List Cert) (aki : Option (List ℕ)) (verifies : List ℕ → Bool)
    (named left : List ℕ)
    (before after : ℕ) : Type 0 where
  pub from : ℕ
  pub rest : IsCertScan cas aki from (length cas) left
  pub passed : (j : ℕ) (x : Cert) → j < from → slice_get cas j ≡ Some x → aki ≡ Some x.ski
      → IsFalse (verifies x.key)
  pub cost : after + length left ≤ before + length named
  pub grows : before ≤ after
  pub none_asked : named ≡ [] → after ≡ before

pub searching-none : (cas : List Cert) (aki : Option (List ℕ)) (verifies : List ℕ → Bool)
    (named : List ℕ) (before : ℕ)
    → IsCertScan cas aki 0 (length cas) named
    → IsSearching cas aki verifies named named before before
searching-none cas aki verifies named before h = record {
  from = 0;
  rest = h;
  passed = λ j x lt e f. absurd (omega (arith, lt));
  cost = omega arith;
  grows = omega arith;
  none_asked = λ e. refl;
}

-- the first that is left, in range
pub first-in-range : (cas : List Cert) (id : Option (List ℕ)) (from to i : ℕ) (rest : List ℕ)
    → IsCertScan cas id from to (i ∷ rest) → i < to
first-in-range cas id from to i rest h = h.1

named-at : (cas : List Cert) (i : ℕ) (x d : Cert) (id : Option (List ℕ)) → slice_get cas i ≡ Some x
    → slice_get cas i ≡ Some d → id ≡ Some x.ski → id ≡ Some d.ski
named-at cas i x d id e f n = n ∙ ap (λ (z : Cert). Some z.ski) (same_Some x d (sym e ∙ f))

pub searching-more : (cas : List Cert) (aki : Option (List ℕ)) (verifies : List ℕ → Bool) (d : Cert)
    (named rest : List ℕ) (i before after : ℕ)
    → IsSearching cas aki verifies named (i ∷ rest) before after →
    slice_get cas i ≡ Some d → IsFalse (verifies d.key)
    → IsSearching cas aki verifies named rest before (after + 1)
searching-more cas aki verifies d named rest i before after w at_i fails = record {
  from = i + 1;
  rest = w.rest.4;
  passed = λ j x lt e f. elim (cases_eq j i) [
    | inl s ↦ ap (λ (z : Cert). verifies z.key)
        (same_Some x d (sym e ∙ ap (slice_get cas) s ∙ at_i)) ∙ fails
    | inr differ ↦ earlier j x (omega (arith, lt, differ)) e f
  ];
  cost = omega (arith, w.cost);
  grows = omega (arith, w.grows);
  none_asked = λ e. absurd (omega (arith, w.cost, w.grows, ap length e));
}
  where
    earlier : (j : ℕ) (x : Cert) → j < i → slice_get cas j ≡ Some x → aki ≡ Some x.ski
        → IsFalse (verifies x.key)
    earlier j x lt e f = elim (cases_lt j w.from) [
      | inl l ↦ w.passed j x l e f
      | inr l ↦ absurd (w.rest.3 j x l lt e f)
    ]

pub searching-found : (cas : List Cert) (aki : Option (List ℕ)) (verifies : List ℕ → Bool)
    (d : Cert) (named rest : List ℕ) (i before after : ℕ)
    → IsSearching cas aki verifies named (i ∷ rest) before after →
    slice_get cas i ≡ Some d → IsTrue (verifies d.key)
    → (x : Cert) × (next : IsNext cas aki verifies x) × (next.index ≡ i)
searching-found cas aki verifies d named rest i before after w at_i verified = (
  d,
  record {
    index = i;
    at_index = at_i;
    named = named-at cas i (w.rest.2.0) d aki w.rest.2.1 at_i w.rest.2.2;
    verified = verified;
    first = λ j x lt e f. elim (cases_lt j w.from) [
      | inl l ↦ w.passed j x l e f
      | inr l ↦ absurd (w.rest.3 j x l lt e f)
    ];
  },
  refl,
)

pub none-named : (cas : List Cert) (aki : Option (List ℕ)) → IsCertScan cas aki 0 (length cas) []
    → (d : Cert)
    → IsIn d cas → ¬ (aki ≡ Some d.ski)
none-named cas aki h d i = let t = in-get cas d i in
    h t.0 d (omega arith) (get-lt cas t.0 d t.1) t.1

pub searching-done : (cas : List Cert) (aki : Option (List ℕ)) (verifies : List ℕ → Bool)
    (named : List ℕ) (before after : ℕ)
    → IsSearching cas aki verifies named [] before after → IsCertScan cas aki 0 (length cas) named
    → ¬ (named ≡ []) → IsUnverified cas aki verifies
searching-done cas aki verifies [] before after w h some = absurd (some refl)
searching-done cas aki verifies (i ∷ named) before after w h some = (
  (h.2.0, get-in cas i h.2.0 h.2.1, h.2.2),
  λ d j e. (let t = in-get cas d j in elim (cases_lt t.0 w.from) [
    | inl l ↦ w.passed t.0 d l t.1 e
    | inr l ↦ absurd (w.rest t.0 d l (get-lt cas t.0 d t.1) t.1 e)
  ]),
)

-- ---- the walk

-- in the middle: what is under the head, and what its resources and visited CAs say of it
pub record IsWalking (cas : List Cert) (ee head : Cert) (sets : PathResources) (visited : List ℕ)
    (turn steps : ℕ) : Type 0 where
  pub below : List Cert
  pub chain : IsChain cas ee (head ∷ below)
  pub first : AreFirst cas (head ∷ below)
  pub covered : IsLinkCovered (head ∷ below)
  pub stands : (f : Family)
      → StandsFor (λ n. n) (resources_in sets f) (explicit_sets (head ∷ below) f)
  pub visits : AreVisited cas visited turn (head ∷ below)
  pub count : length below ≡ steps

none-stands : (resources : Option (FamilyResources Numbers)) → resources ≡ None
    → StandsFor (λ n. n) resources []
none-stands resources e = subst (λ k. StandsFor (λ n. n) k []) (sym e) refl

nothing-below : (mode : Overclaim) (claim : Claim Numbers) → IsCovered (λ n. n) mode [] claim
nothing-below Refuse claim = tt
nothing-below Trim claim = tt

-- the start of the walk
pub walking-none : (cas : List Cert) (ee : Cert) (none sets : PathResources) (visited : List ℕ)
    (turn : ℕ) → AreApart ee cas → InEach (λ f. resources_in none f ≡ None) →
    InEach (λ f. IsWithClaim (λ n. n) ee.overclaim (resources_in none f) (ee.claim f)
    (resources_in sets f))
    → length visited ≡ length cas → ((k : ℕ) → k < length visited → slice_index visited k ≢ turn) →
    IsWalking cas ee ee sets visited turn 0
walking-none cas ee none sets visited turn apart empty claimed len fresh = record {
  below = [];
  chain = refl;
  first = tt;
  covered = tt;
  stands = λ f. issuer-keeps (λ n. n) ee.overclaim (resources_in none f) (resources_in sets f)
      (ee.claim f) []
      (none-stands (resources_in none f) (in-each (λ g. resources_in none g ≡ None) empty f))
      (nothing-below ee.overclaim (ee.claim f))
      (in-each (λ g. IsWithClaim (λ n. n) ee.overclaim (resources_in none g) (ee.claim g)
      (resources_in sets g))
      claimed f);
  visits = record {
    on = λ i d g e off. fresh i (omega (arith, get-lt cas i d g, len)) e;
    off = λ i d g e. (apart.0 i d g, tt);
  };
  count = refl;
}

module _ (cas : List Cert) (ee head : Cert) (sets : PathResources) (visited : List ℕ)
    (turn steps : ℕ) (w : IsWalking cas ee head sets visited turn steps) where
  pub arrives : HasNoIssuer cas head → IsWalked cas ee head sets visited turn
  arrives top = record {
    below = w.below;
    path = record { chain = w.chain; top = top };
    first = w.first;
    covered =
        w.covered;
    stands = w.stands;
    visits = w.visits;
  }

  reached : ¬ (IsSelfSigned head) → IsReached cas ee head w.below
  reached open_head = record {
    chain = w.chain;
    first = w.first;
    covered = w.covered;
    not_self_signed = open_head;
  }

  none-verifies : ¬ (IsSelfSigned head) → IsUnverified cas head.aki head.verifies
      → IsRefused NoValidIssuer cas ee
  none-verifies open_head u = (head, w.below, reached open_head, u)

  -- more steps than there are CAs
  pub few-steps : steps ≤ length cas
  few-steps = omega (arith, short cas ee (head ∷ w.below) w.chain, w.count)

  module _ (d : Cert) (i : ℕ) (at_i : slice_get cas i ≡ Some d)
      (open_head : ¬ (IsSelfSigned head)) (next : IsNext cas head.aki head.verifies d) where
    returns-to-visited : slice_index visited i ≡ turn → IsRefused Returns cas ee
    returns-to-visited e = (
      head,
      d,
      w.below,
      reached open_head,
      next,
      w.visits.on i d at_i e,
    )

    is-revoked : slice_index visited i ≢ turn → IsTrue (d.revokes head.serial)
        → IsRefused Revoked cas ee
    is-revoked e r = (
      head,
      d,
      w.below,
      reached open_head,
      next,
      (w.visits.off i d at_i e, r),
    )

    abbrev IsCoveredIn : Family → Type 0
    IsCoveredIn f = IsCovered (λ n. n) head.overclaim (explicit_sets (head ∷ w.below) f) (d.claim f)

    abbrev pub IsNearestIn : Family → Type 0
    IsNearestIn f = CoversNearest (λ n. n) head.overclaim (resources_in sets f) (d.claim f)

    from-nearest : (f : Family) → IsNearestIn f → IsCoveredIn f
    from-nearest f h = from-covers_nearest (λ n. n) head.overclaim (resources_in sets f)
        (explicit_sets (head ∷ w.below) f) (d.claim f) (w.stands f) h

    to-nearest : (f : Family) → IsCoveredIn f → IsNearestIn f
    to-nearest f h = covers_nearest (λ n. n) head.overclaim (resources_in sets f)
        (explicit_sets (head ∷ w.below) f) (d.claim f) (w.stands f) h

    is-uncovered : (family : Family) → slice_index visited i ≢ turn
        → IsFalse (d.revokes head.serial) → FailsFirst IsNearestIn family
        → IsRefused (NotCovered family) cas ee
    is-uncovered family e r h = (
      head,
      d,
      w.below,
      reached open_head,
      next,
      (
        w.visits.off i d at_i e,
        r,
        fails-first IsNearestIn IsCoveredIn from-nearest to-nearest family h,
      ),
    )

    walks-on : (new : PathResources) → AreApart ee cas → i < length visited
        → slice_index visited i ≢ turn → IsFalse (d.revokes head.serial) → InEach IsNearestIn →
        InEach (λ f. IsWithClaim (λ n. n) head.overclaim (resources_in sets f) (d.claim f)
        (resources_in new f))
        → IsWalking cas ee d new (set visited i turn) turn (steps + 1)
    walks-on new apart lt ne fresh cov claimed =
        let off_next : IsOff d (head ∷ w.below) = w.visits.off i d at_i ne in
        let issued : IsIssuedBy cas head d =
        record {
          not_self_signed = open_head;
          carried =
              get-in cas i d at_i;
          names_issuer = next.named;
          signed =
              next.verified;
          not_revoked = fresh;
        } in
        let here' : (f : Family) → IsCoveredIn f =
        λ f. from-nearest f (in-each IsNearestIn cov f) in
        record {
          below = head ∷ w.below;
          chain = (issued, off_next, w.chain);
          first = (next, w.first);
          covered = (here', w.covered);
          stands = λ f. issuer-keeps (λ n. n) head.overclaim (resources_in sets f)
              (resources_in new f)
              (d.claim f) (explicit_sets (head ∷ w.below) f) (w.stands f) (here' f)
              (in-each (λ g. IsWithClaim (λ n. n) head.overclaim (resources_in sets g) (d.claim g)
              (resources_in new g)) claimed f);
          visits = record {
            on = λ j x g e off. elim (cases_eq j i) [
              | inl s ↦ off.0 (ap (λ (z : Cert). z.place)
                  (same_Some x d (sym g ∙ ap (slice_get cas) s ∙ at_i)))
              | inr differ ↦ w.visits.on j x g
                  (sym (get_or-set_other visited i j turn 0 differ) ∙ e) off.1
            ];
            off = λ j x g f.
                (let differ : j ≢ i =
                λ s. f (ap (λ n. get_or (set visited i turn) n 0) s
                ∙ get_or-set_same visited i turn 0 lt) in (
                  λ s. differ (apart.1 j i x d g at_i s),
                  w.visits.off j x g (λ e. f
                      (get_or-set_other visited i j turn 0 differ ∙ e)),
                ));
          };
          count = (let t : suc (length w.below) ≡ steps + 1 = omega (arith, w.count) in t);
        }

  -- each reason for which a walk ends at its head
  pub ends : (fault : PathFault) → EndsWith fault cas head sets visited turn
      → IsRefused fault cas ee
  ends NoValidIssuer h = none-verifies h.0 h.1
  ends Returns h = returns-to-visited h.1 h.2.index h.2.at_index h.0 h.2 h.3
  ends Revoked h = is-revoked h.1 h.2.index h.2.at_index h.0 h.2 h.3.0 h.3.1
  ends (NotCovered family) h =
      is-uncovered h.1 h.2.index h.2.at_index h.0 h.2 family h.3.0 h.3.1 h.3.2
  ends Memory h = absurd h

  pub goes-on : (new : PathResources) (d : Cert) (i : ℕ) → slice_get cas i ≡ Some d
      → GoesOn cas head sets visited turn i → AreApart ee cas → i < length visited →
      InEach (λ f. IsWithClaim (λ n. n) head.overclaim (resources_in sets f) (d.claim f)
      (resources_in new f))
      → IsWalking cas ee d new (set visited i turn) turn (steps + 1)
  goes-on new d i at_i h apart lt claimed =
      let same = same_Some h.1 d (sym h.2.at_index ∙ ap (slice_get cas) h.3.0 ∙ at_i) in
      walks-on d i at_i h.0 (subst (λ x. IsNext cas head.aki head.verifies x) same h.2) new apart lt
      h.3.1 (subst (λ (x : Cert). IsFalse (x.revokes head.serial)) same h.3.2)
      (subst (λ x. InEach (λ f. CoversIn sets head x f)) same h.3.3) claimed

pub keeps-none : (turn : ℕ) (visited : List ℕ) → KeepsVisited turn visited visited
keeps-none turn visited i ne = refl

pub keeps-more : (turn i : ℕ) (old visited : List ℕ) → i < length visited
    → KeepsVisited turn old visited → KeepsVisited turn old (set visited i turn)
keeps-more turn i old visited lt h k ne =
    let differ : k ≢ i = λ s. ne
    (ap (λ n. get_or (set visited i turn) n 0) s ∙ get_or-set_same visited i turn 0 lt) in
    let same = get_or-set_other visited i k turn 0 differ in
    same ∙ h k (λ e. ne (same ∙ e))

pub resources_tell_takes : ResourcesTellTakes
resources_tell_takes head p resources ski key sets stands = (
  λ h f. from-covers_nearest (λ n. n) head.overclaim (resources_in resources f)
      (explicit_sets (head ∷ p) f)
      (Explicit (sets f)) (stands f)
      (in-each (λ g. CoversNearest (λ n. n) head.overclaim (resources_in resources g)
      (Explicit (sets g))) h f),
  λ h. to-each (λ g. CoversNearest (λ n. n) head.overclaim (resources_in resources g)
      (Explicit (sets g)))
      (λ f. covers_nearest (λ n. n) head.overclaim (resources_in resources f)
      (explicit_sets (head ∷ p) f)
      (Explicit (sets f)) (stands f) (h f)),
)

-- what an index has of an identifier
pub index-named : (ids : List (List ℕ)) (index : KeyIdIndex) (id aki : Option (List ℕ))
    (named : List ℕ) → IsIndex ids index → named ≡ places_of index id → id ≡ aki
    → IsNamedBy ids aki named
index-named ids index id None named h e f = e ∙ ap (places_of index) f
index-named ids index id (Some aki) named h e f =
    subst (λ l. IsNamed ids aki l) (sym (e ∙ ap (places_of index) f)) (h aki)

-- what was found, by the certificate at its place
pub next-found : {C : Type 0} (cert : C → Cert) (cas : List C) (P : Cert → ℕ → Type 0) (c : Cert)
    (i : ℕ) (ca : C) → ¬ (IsSelfSigned c) → i < length cas → ca ≡ get_or cas i ca
    → FoundSays (placed cert 1 cas) c.aki c.verifies (Issuer i) → P (at_place (i + 1) (cert ca)) i
    → HasNext P (placed cert 1 cas) c
next-found cert cas P c i ca open_head lt at_i found p =
    let d = at_place (i + 1) (cert ca) in
    let same = same_Some found.0 d (sym found.1.at_index
    ∙ ap (slice_get (placed cert 1 cas)) found.2 ∙ get-placed cert 1 cas i ca lt at_i) in (
      open_head,
      found.0,
      found.1,
      subst (λ x. P x found.1.index) (sym same) (subst (λ n. P d n) (sym found.2) p),
    )

pub empty-from : {A : Type 0} (xs : List A) → length xs ≡ 0 → xs ≡ []
empty-from [] e = refl
empty-from (x ∷ xs) e = absurd (omega (arith, e))

pub searching-at : (cas : List Cert) (aki : Option (List ℕ)) (verifies : List ℕ → Bool)
    (named left right : List ℕ) (before after : ℕ) →
    IsSearching cas aki verifies named left before after → left ≡ right
    → IsSearching cas aki verifies named right before after
searching-at cas aki verifies named left right before after w e =
    subst (λ l. IsSearching cas aki verifies named l before after) e w

pub searching-next : (cas : List Cert) (aki : Option (List ℕ)) (verifies : List ℕ → Bool) (d : Cert)
    (named rest : List ℕ) (i before after next : ℕ) →
    IsSearching cas aki verifies named (i ∷ rest) before after → slice_get cas i ≡ Some d
    → IsFalse (verifies d.key) → next ≡ after + 1 →
    IsSearching cas aki verifies named rest before next
searching-next cas aki verifies d named rest i before after next w at_i fails e =
    subst (λ n. IsSearching cas aki verifies named rest before n) (sym e)
    (searching-more cas aki verifies d named rest i before after w at_i fails)

pub issuer-same : (a b : ℕ) → Issuer a ≡ Issuer b → a ≡ b
issuer-same a b e = cc
