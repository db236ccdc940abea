-- The name of a file, joined to an rsync URI, is an rsync URI.
use Rattle.std.proofs.Common.{◌≡◌, ℕ, zero, suc, ◌+◌, ◌<◌, ◌≤◌, Bool, true, false, cond, List, []}
use Rattle.std.proofs.Common.{◌∷◌, ◌++◌, length, refl, sym, ap, subst, ◌∙◌, arith}
use Rattle.std.specs.Prelude.{◌-◌, ◌==◌, ◌&&◌, not, nat_eq, nat_lt}
use Rattle.std.specs.List.{list_all, range_with_len, ends_with}
use Rattle.std.proofs.Math.Bool.{and-true}
use Rattle.std.proofs.lemmas.Bool.{eqb-true, eq-eqb, ne_eqb, ltb-true, ltb-false, leb-true}
use Rattle.std.proofs.lemmas.Bool.{not-true, and_parts, and_from}
use Rattle.std.proofs.lemmas.List.{append_assoc, drop_at, length-append}
use Rattle.std.proofs.lemmas.List.Folds.{list_all-append}
use Rattle.rpki_basics.specs.Segments.{segments, longer}
use Rattle.rpki_basics.specs.Uri.{is_uri_octet, AreUriOctets, IsNoDotSegment, IsPath}
use Rattle.rpki_basics.specs.Uri.{AreRsyncSegments, IsRsync, join_text}
use Rattle.rpki_basics.proofs.Uris.Segments.{segments-some}
use Rattle.rpki_files.specs.Name.{IsFileName, is_from, is_letter, is_stem}
use Rattle.rpki_files.proofs.Names.Decided.{or-true}

-- ---- the octets of a name

-- an octet of a URI that is no slash
abbrev pub is_plain : ℕ → Bool
is_plain b = is_uri_octet b && not (b == 47)

among : (test : ℕ → Bool) (n low b : ℕ) → list_all test (range_with_len low n) ≡ true → low ≤ b
    → b < low + n → test b ≡ true
among test zero low b h l u = absurd (omega (arith, l, u))
among test (suc n) low b h l u =
    let p = and_parts (test low) _ h in
    at p.0 (λ more. among test n (low + 1) b p.1 (omega (arith, more)) (omega (arith, u)))
    (nat_lt low b) refl
  where
    at : test low ≡ true → (low < b → test b ≡ true) → (t : Bool) → nat_lt low b ≡ t
        → test b ≡ true
    at f g true e = g (ltb-true low b e)
    at f g false e =
        let most : b ≤ low = ltb-false low b e in
        let same : low ≡ b = omega (arith, most, l) in
        subst (λ (x : ℕ). test x ≡ true) same f

plain-from : (low high n b : ℕ) → list_all is_plain (range_with_len low n) ≡ true
    → high < low + n → is_from low high b ≡ true → is_plain b ≡ true
plain-from low high n b h u e =
    let p = and_parts _ _ e in
    let l : low ≤ b = leb-true low b p.0 in
    let m : b ≤ high = leb-true b high p.1 in
    among is_plain n low b h l (omega (arith, m, u))

plain-at : (b x : ℕ) → is_plain x ≡ true → (b == x) ≡ true → is_plain b ≡ true
plain-at b x h e = subst (λ (y : ℕ). is_plain y ≡ true) (sym (eqb-true b x e)) h

letter-plain : (b : ℕ) → is_letter b ≡ true → is_plain b ≡ true
letter-plain b h = or-true (is_from 0x61 0x7A b) (is_from 0x41 0x5A b) h (is_plain b ≡ true)
    (plain-from 0x61 0x7A 26 b refl (omega arith)) (plain-from 0x41 0x5A 26 b refl (omega arith))

stem-plain : (b : ℕ) → is_stem b ≡ true → is_plain b ≡ true
stem-plain b h = or-true (is_letter b) _ h (is_plain b ≡ true) (letter-plain b)
    (λ k. or-true (is_from 0x30 0x39 b) _ k (is_plain b ≡ true)
    (plain-from 0x30 0x39 10 b refl (omega arith))
    (λ l. or-true (b == 0x2D) (b == 0x5F) l (is_plain b ≡ true)
    (plain-at b 0x2D refl) (plain-at b 0x5F refl)))

all-plain : (test : ℕ → Bool) → ((b : ℕ) → test b ≡ true → is_plain b ≡ true) → (bs : List ℕ)
    → list_all test bs ≡ true → list_all is_plain bs ≡ true
all-plain test f [] h = refl
all-plain test f (b ∷ bs) h =
    let p = and_parts (test b) _ h in
    and_from (is_plain b) _ (f b p.0) (all-plain test f bs p.1)

all-join : (test : ℕ → Bool) (a b : List ℕ) → list_all test a ≡ true → list_all test b ≡ true
    → list_all test (a ++ b) ≡ true
all-join test a b h k = list_all-append test a b ∙ and_from (list_all test a) _ h k

-- What is asked of a name: plain octets, and no dot segment.
pub record IsPlain (name : List ℕ) : Type 0 where
  pub octets : list_all is_plain name ≡ true
  pub segment : IsNoDotSegment name

pub name-plain : (name : List ℕ) → IsFileName name → IsPlain name
name-plain name h =
    let len : length name ≡ length (h.stem ++ (0x2E ∷ h.ending)) = ap length h.parts in
    let all : length name ≡ length h.stem + 4 =
    omega (arith, len, length-append h.stem (0x2E ∷ h.ending), h.three) in
    record {
      octets = subst (λ (n : List ℕ). list_all is_plain n ≡ true) (sym h.parts)
          (all-join is_plain h.stem (0x2E ∷ h.ending)
          (all-plain is_stem stem-plain h.stem h.characters)
          (all-plain is_letter letter-plain h.ending h.letters));
      segment = (
        λ k. let one : length name ≡ 1 = ap length k in omega (arith, all, one),
        λ k. let two : length name ≡ 2 = ap length k in omega (arith, all, two),
      );
    }

plain-uri : (bs : List ℕ) → list_all is_plain bs ≡ true → AreUriOctets bs
plain-uri [] h = refl
plain-uri (b ∷ bs) h =
    let p = and_parts (is_plain b) _ h in
    let q = and_parts (is_uri_octet b) _ p.0 in
    and_from (is_uri_octet b) _ q.0 (plain-uri bs p.1)

-- ---- cutting at slashes

longer-onto : (octet : ℕ) (text : List ℕ) (ps : List (List ℕ))
    → longer octet (segments text ++ ps) ≡ longer octet (segments text) ++ ps
longer-onto octet text ps =
    let s = segments-some text in rw s.2 refl

-- a slash ends a segment
segments-join : (a b : List ℕ) → segments (a ++ (47 ∷ b)) ≡ segments a ++ segments b
unfolding segments
segments-join [] b = refl
segments-join (octet ∷ a) b = at (segments-join a b) (octet == 47)
  where
    at : segments (a ++ (47 ∷ b)) ≡ segments a ++ segments b → (t : Bool)
        → cond t ([] ∷ segments (a ++ (47 ∷ b))) (longer octet (segments (a ++ (47 ∷ b))))
        ≡ cond t ([] ∷ segments a) (longer octet (segments a)) ++ segments b
    at e true = ap (λ (ps : List (List ℕ)). [] ∷ ps) e
    at e false = ap (longer octet) e ∙ longer-onto octet a (segments b)

-- a plain name is one segment
segments-plain : (name : List ℕ) → list_all is_plain name ≡ true → segments name ≡ name ∷ []
unfolding segments
segments-plain [] h = refl
segments-plain (b ∷ name) h =
    let p = and_parts (is_plain b) _ h in
    let q = and_parts (is_uri_octet b) _ p.0 in
    let other : (b == 47) ≡ false = not-true _ q.1 in
    rw (other, segments-plain name p.1) refl

-- the last segment is not empty, where there is one
abbrev EndsInSome : List (List ℕ) → Type 0
EndsInSome [] = Unit {0}
EndsInSome (segment ∷ []) = 0 < length segment
EndsInSome (segment ∷ next ∷ others) = EndsInSome (next ∷ others)

longer-some : (octet : ℕ) (ps : List (List ℕ)) → EndsInSome ps → EndsInSome (longer octet ps)
longer-some octet [] h = omega arith
longer-some octet (p ∷ []) h = omega arith
longer-some octet (p ∷ n ∷ ps) h = h

under-some : (text : List ℕ) → EndsInSome (segments text) → EndsInSome ([] ∷ segments text)
under-some text h = let s = segments-some text in
    subst (λ (ps : List (List ℕ)). EndsInSome ([] ∷ ps)) (sym s.2) (subst EndsInSome s.2 h)

ends-some : (front : List ℕ) (x : ℕ) → (x == 47) ≡ false → EndsInSome (segments (front ++ (x ∷ [])))
unfolding segments
ends-some [] x h = rw h (omega arith)
ends-some (octet ∷ front) x h = at (ends-some front x h) (octet == 47)
  where
    at : EndsInSome (segments (front ++ (x ∷ []))) → (t : Bool)
        → EndsInSome (cond t ([] ∷ segments (front ++ (x ∷ [])))
        (longer octet (segments (front ++ (x ∷ [])))))
    at more true = under-some (front ++ (x ∷ [])) more
    at more false = longer-some octet (segments (front ++ (x ∷ []))) more

-- ---- paths

path-grown : (name : List ℕ) → IsNoDotSegment name → (ps : List (List ℕ)) → IsPath ps
    → EndsInSome ps → IsPath (ps ++ (name ∷ []))
path-grown name n [] h e = n
path-grown name n (p ∷ []) h e = (h, e, n)
path-grown name n (p ∷ q ∷ ps) h e = (h.0, h.1, path-grown name n (q ∷ ps) h.2 e)

after-some : (p : List ℕ) (ps : List (List ℕ)) → EndsInSome (p ∷ ps) → EndsInSome ps
after-some p [] e = tt
after-some p (q ∷ ps) e = e

segments-grown : (name : List ℕ) → IsNoDotSegment name → (ps : List (List ℕ)) → AreRsyncSegments ps
    → EndsInSome ps → AreRsyncSegments (ps ++ (name ∷ []))
segments-grown name n [] h e = absurd h
segments-grown name n (a ∷ []) h e = absurd h
segments-grown name n (a ∷ f ∷ ps) h e =
    (h.0, h.1, h.2, path-grown name n ps h.3 (after-some f ps e))

-- a name in the place of an empty last segment
path-ended : (name : List ℕ) → IsNoDotSegment name → (ps : List (List ℕ)) → IsPath (ps ++ ([] ∷ []))
    → IsPath (ps ++ (name ∷ []))
path-ended name n [] h = n
path-ended name n (p ∷ []) h = (h.0, h.1, n)
path-ended name n (p ∷ q ∷ ps) h = (h.0, h.1, path-ended name n (q ∷ ps) h.2)

segments-ended : (name : List ℕ) → IsNoDotSegment name → (ps : List (List ℕ))
    → AreRsyncSegments (ps ++ ([] ∷ [])) → AreRsyncSegments (ps ++ (name ∷ []))
segments-ended name n [] h = absurd h
segments-ended name n (a ∷ []) h = let k : 0 < 0 = h.1 in absurd (omega (arith, k))
segments-ended name n (a ∷ f ∷ ps) h = (h.0, h.1, h.2, path-ended name n ps h.3)

-- ---- URIs

-- the last octet and what stands before it
last-of : (a : ℕ) (text : List ℕ) → (front : List ℕ) × (x : ℕ) × (a ∷ text ≡ front ++ (x ∷ []))
last-of a [] = ([], a, refl)
last-of a (b ∷ text) =
    let l = last-of b text in (a ∷ l.0, l.1, ap (λ (t : List ℕ). a ∷ t) l.2)

ends-with : (front : List ℕ) (x : ℕ) → ends_with nat_eq (front ++ (x ∷ [])) (47 ∷ []) ≡ (47 == x)
ends-with front x =
    let len : length front ≡ length (front ++ (x ∷ [])) - 1 =
    omega (arith, length-append front (x ∷ [])) in
    rw (drop_at front (x ∷ []) (length (front ++ (x ∷ [])) - 1) len) (and-true (47 == x))

-- an rsync URI and more octets, where its segments stay those of one
grown : (base more : List ℕ) (h : IsRsync base) → AreUriOctets more
    → AreRsyncSegments (segments (h.1.2.0 ++ more)) → IsRsync (base ++ more)
grown base more h u k = (
  all-join is_uri_octet base more h.0 u,
  (
    h.1.0 ++ more,
    (
      h.1.1.0,
      ap (λ (t : List ℕ). t ++ more) h.1.1.1 ∙ append_assoc h.1.1.0 (58 ∷ h.1.0) more,
      h.1.1.2,
    ),
    (h.1.2.0 ++ more, ap (λ (t : List ℕ). t ++ more) h.1.2.1, k),
  ),
)

-- there is an octet after the two slashes
some-rest : (rest : List ℕ) → AreRsyncSegments (segments rest)
    → (front : List ℕ) × (x : ℕ) × (rest ≡ front ++ (x ∷ []))
unfolding segments
some-rest [] h = absurd h
some-rest (a ∷ rest) h = last-of a rest

segments-none : segments [] ≡ [] ∷ []
unfolding segments
segments-none = refl

-- what stands after the two slashes, where it ends in a slash
after-slash : (rest front name : List ℕ) → IsPlain name → rest ≡ front ++ (47 ∷ [])
    → AreRsyncSegments (segments rest) → AreRsyncSegments (segments (rest ++ name))
after-slash rest front name p e h =
    let old : segments rest ≡ segments front ++ ([] ∷ []) = ap segments e
    ∙ segments-join front [] ∙ ap (λ (ps : List (List ℕ)). segments front ++ ps) segments-none in
    let text : rest ++ name ≡ front ++ (47 ∷ name) = ap (λ (t : List ℕ). t ++ name) e
    ∙ append_assoc front (47 ∷ []) name in
    let new : segments (rest ++ name) ≡ segments front ++ (name ∷ []) = ap segments text
    ∙ segments-join front name
    ∙ ap (λ (ps : List (List ℕ)). segments front ++ ps) (segments-plain name p.octets) in
    subst AreRsyncSegments (sym new)
    (segments-ended name p.segment (segments front) (subst AreRsyncSegments old h))

-- and where it does not
after-other : (rest front name : List ℕ) (x : ℕ) → IsPlain name → rest ≡ front ++ (x ∷ [])
    → (x == 47) ≡ false → AreRsyncSegments (segments rest)
    → AreRsyncSegments (segments (rest ++ (47 ∷ name)))
after-other rest front name x p e other h =
    let new : segments (rest ++ (47 ∷ name)) ≡ segments rest ++ (name ∷ []) =
    segments-join rest name
    ∙ ap (λ (ps : List (List ℕ)). segments rest ++ ps) (segments-plain name p.octets) in
    let some : EndsInSome (segments rest) =
    subst (λ (t : List ℕ). EndsInSome (segments t)) (sym e) (ends-some front x other) in
    subst AreRsyncSegments (sym new) (segments-grown name p.segment (segments rest) h some)

pub plain-joined : (base name : List ℕ) → IsRsync base → IsPlain name
    → IsRsync (join_text base name)
plain-joined base name h p =
    let l = some-rest h.1.2.0 h.1.2.2 in
    let whole : base ≡ (h.1.1.0 ++ (58 ∷ 47 ∷ 47 ∷ l.0)) ++ (l.1 ∷ []) = h.1.1.1
    ∙ ap (λ (t : List ℕ). h.1.1.0 ++ (58 ∷ t))
    (h.1.2.1 ∙ ap (λ (t : List ℕ). 47 ∷ 47 ∷ t) l.2)
    ∙ sym (append_assoc h.1.1.0 (58 ∷ 47 ∷ 47 ∷ l.0) (l.1 ∷ [])) in
    let ends : ends_with nat_eq base (47 ∷ []) ≡ (47 == l.1) =
    ap (λ (t : List ℕ). ends_with nat_eq t (47 ∷ [])) whole
    ∙ ends-with (h.1.1.0 ++ (58 ∷ 47 ∷ 47 ∷ l.0)) l.1 in
    subst (λ (t : Bool). IsRsync (cond t (base ++ name) (base ++ (47 ∷ name)))) (sym ends)
    (at l.0 l.1 l.2 (47 == l.1) refl)
  where
    at : (front : List ℕ) (x : ℕ) → h.1.2.0 ≡ front ++ (x ∷ []) → (t : Bool) → (47 == x) ≡ t
        → IsRsync (cond t (base ++ name) (base ++ (47 ∷ name)))
    at front x e true k =
        let slash : h.1.2.0 ≡ front ++ (47 ∷ []) = e
        ∙ ap (λ (y : ℕ). front ++ (y ∷ [])) (sym (eqb-true 47 x k)) in
        grown base name h (plain-uri name p.octets)
        (after-slash h.1.2.0 front name p slash h.1.2.2)
    at front x e false k =
        let other : (x == 47) ≡ false = ne_eqb x 47 (λ m. absurd
        (let no : true ≡ false = sym (eq-eqb 47 x (sym m)) ∙ k in cc)) in
        grown base (47 ∷ name) h
        (and_from (is_uri_octet 47) _ refl (plain-uri name p.octets))
        (after-other h.1.2.0 front name x p e other h.1.2.2)

-- the URI of a file below a base
pub name_joined : (base name : List ℕ) → IsRsync base → IsFileName name
    → IsRsync (join_text base name)
name_joined base name h n = plain-joined base name h (name-plain name n)
