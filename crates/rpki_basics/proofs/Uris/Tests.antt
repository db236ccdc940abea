-- What the tests of URIs tell.
use Rattle.std.specs.Prelude.{Result, Ok, Err, nat_eq}
use Rattle.std.specs.List.{ends_with}
use Rattle.rpki_basics.specs.Uri.{IsUriOf, IsRsync, IsJoined, AreUriOctets, join_text}
use Rattle.rpki_basics.specs.declared.uri.Error.{Error}
use Rattle.rpki_basics.specs.declared.uri.Error.TheVariants.{InvalidCharacters, BadScheme, BadUri}
use Rattle.rpki_basics.specs.declared.uri.Error.TheVariants.{Memory}
use Rattle.std.proofs.Common.{◌≡◌, ℕ, ◌<◌, Bool, true, false, cond, List, [], ◌∷◌, ◌++◌, length}
use Rattle.std.proofs.Common.{map, get_or, take, drop, ◌+◌, ◌↔◌, refl, sym, ap, subst, ◌∙◌, arith}
use Rattle.std.specs.Prelude.{◌==◌, ◌&&◌, not, nat_lt, codes}
use Rattle.std.proofs.lemmas.List.{drop_more, take-append-drop, length-map, length-append}
use Rattle.std.proofs.lemmas.List.{append_assoc, get_or_at, take_at, drop_at}
use Rattle.std.specs.Char.{to_ascii_lowercase}
use Rattle.std.proofs.lemmas.Bool.{eqb-true, eq-eqb, ltb-true, lt-ltb, and_parts, and_from}
use Rattle.std.proofs.lemmas.Bool.{and_left, and_right, le-ltb, not-true}
use Rattle.rpki_basics.specs.Segments.{segments}
use Rattle.rpki_basics.specs.Uri.{Follows, HasScheme, IsNoDotSegment, IsPath, AreRsyncSegments}
use Rattle.rpki_basics.specs.Uri.{AreHttpsSegments, GoesOn, IsUri}
use Rattle.rpki_basics.specs.Uri.Tests.{is_dot_segment, is_path, are_rsync_segments}
use Rattle.rpki_basics.specs.Uri.Tests.{are_https_segments}
use Rattle.rpki_basics.proofs.Uris.Segments.{segments-some}

-- ---- schemes

-- where the scheme and its colon stand
pub follows-at : (scheme text : List ℕ) (c : ℕ) → length scheme < length text
    → c ≡ get_or text (length scheme) c → c ≡ 58
    → map to_ascii_lowercase (take (length scheme) text) ≡ scheme
    → Follows scheme text (drop (length scheme + 1) text)
follows-at scheme text c l e h m =
    let n : ℕ = length scheme in
    let here : drop n text ≡ 58 ∷ drop (n + 1) text = drop_more text n c l
    ∙ ap (λ (x : ℕ). x ∷ drop (n + 1) text) (sym e ∙ h) in
    (take n text, sym (take-append-drop n text) ∙ ap (λ (t : List ℕ). take n text ++ t) here, m)

pub record Placed (scheme text rest : List ℕ) : Type 0 where
  pub long : length scheme < length text
  pub colon : (d : ℕ) → get_or text (length scheme) d ≡ 58
  pub letters : map to_ascii_lowercase (take (length scheme) text) ≡ scheme
  pub after : drop (length scheme + 1) text ≡ rest

placed-at : (scheme name rest : List ℕ) → map to_ascii_lowercase name ≡ scheme
    → Placed scheme (name ++ 58 ∷ rest) rest
placed-at scheme name rest m =
    let len : length name ≡ length scheme = sym (length-map name to_ascii_lowercase)
    ∙ ap length m in
    let joined : name ++ 58 ∷ rest ≡ (name ++ 58 ∷ []) ++ rest =
    sym (append_assoc name (58 ∷ []) rest) in
    record {
      long = omega (arith, len, length-append name (58 ∷ rest));
      colon = λ d. get_or_at name 58 rest d (length scheme) len;
      letters = rw (take_at name (58 ∷ rest) (length scheme) len) m;
      after = rw joined (drop_at (name ++ 58 ∷ []) rest (length scheme + 1)
          (omega (arith, len, length-append name (58 ∷ []))));
    }

pub placed : (scheme text rest : List ℕ) → Follows scheme text rest → Placed scheme text rest
placed scheme text rest f = rw f.1 (placed-at scheme f.0 rest f.2)

pub follows-one : (scheme text r s : List ℕ) → Follows scheme text r → Follows scheme text s → r ≡ s
follows-one scheme text r s f g = sym (placed scheme text r f).after
    ∙ (placed scheme text s g).after

-- ---- segments

dots-false : (segment : List ℕ) → is_dot_segment segment ≡ false → IsNoDotSegment segment
dots-false [] e = (λ k. absurd cc, λ k. absurd cc)
dots-false (a ∷ []) e = (
  λ k. let is : a ≡ 46 = cc in
      absurd (let no : true ≡ false = sym (eq-eqb a 46 is) ∙ e in cc),
  λ k. absurd cc,
)
dots-false (a ∷ b ∷ []) e = (
  λ k. absurd cc,
  λ k. let is : a ≡ 46 = cc in let so : b ≡ 46 = cc in
      absurd (let no : true ≡ false = sym (and_from _ _ (eq-eqb a 46 is) (eq-eqb b 46 so)) ∙ e in
      cc),
)
dots-false (a ∷ b ∷ c ∷ rest) e = (λ k. absurd cc, λ k. absurd cc)

no-dots : (segment : List ℕ) → IsNoDotSegment segment → not (is_dot_segment segment) ≡ true
no-dots [] h = refl
no-dots (a ∷ []) h = at (a == 46) refl
  where
    at : (t : Bool) → (a == 46) ≡ t → not t ≡ true
    at true e = absurd (h.0 (ap (λ (x : ℕ). x ∷ []) (eqb-true a 46 e)))
    at false e = refl
no-dots (a ∷ b ∷ []) h = at ((a == 46) && (b == 46)) refl
  where
    at : (t : Bool) → ((a == 46) && (b == 46)) ≡ t → not t ≡ true
    at true e = let p = and_parts (a == 46) (b == 46) e in
        absurd (h.1 (let x : a ≡ 46 = eqb-true a 46 p.0 in let y : b ≡ 46 = eqb-true b 46 p.1 in
        cc))
    at false e = refl
no-dots (a ∷ b ∷ c ∷ rest) h = refl

path-true : (ps : List (List ℕ)) → is_path ps ≡ true → IsPath ps
path-true [] e = tt
path-true (p ∷ []) e = dots-false p (not-true _ e)
path-true (p ∷ n ∷ ps) e =
    let a = and_parts (not (is_dot_segment p) && nat_lt 0 (length p)) (is_path (n ∷ ps)) e in
    let b = and_parts (not (is_dot_segment p)) (nat_lt 0 (length p)) a.0 in
    (dots-false p (not-true _ b.0), ltb-true _ _ b.1, path-true (n ∷ ps) a.1)

path-is : (ps : List (List ℕ)) → IsPath ps → is_path ps ≡ true
path-is [] h = refl
path-is (p ∷ []) h = no-dots p h
path-is (p ∷ n ∷ ps) h =
    and_from _ _ (and_from _ _ (no-dots p h.0) (lt-ltb _ _ h.1)) (path-is (n ∷ ps) h.2)

pub rsync-true : (ps : List (List ℕ)) → are_rsync_segments ps ≡ true → AreRsyncSegments ps
rsync-true [] e = absurd cc
rsync-true (a ∷ []) e = absurd cc
rsync-true (a ∷ f ∷ ps) e =
    let x = and_parts _ (is_path ps) e in
    let y = and_parts _ (not (is_dot_segment f)) x.0 in
    let z = and_parts (nat_lt 0 (length a)) (nat_lt 0 (length f)) y.0 in
    (ltb-true _ _ z.0, ltb-true _ _ z.1, dots-false f (not-true _ y.1), path-true ps x.1)

pub rsync-is : (ps : List (List ℕ)) → AreRsyncSegments ps → are_rsync_segments ps ≡ true
rsync-is [] h = absurd h
rsync-is (a ∷ []) h = absurd h
rsync-is (a ∷ f ∷ ps) h =
    and_from _ _ (and_from _ _ (and_from _ _ (lt-ltb _ _ h.0) (lt-ltb _ _ h.1)) (no-dots f h.2))
    (path-is ps h.3)

pub https-true : (ps : List (List ℕ)) → are_https_segments ps ≡ true → AreHttpsSegments ps
https-true [] e = absurd cc
https-true (a ∷ ps) e = ltb-true _ _ e

pub https-is : (ps : List (List ℕ)) → AreHttpsSegments ps → are_https_segments ps ≡ true
https-is [] h = absurd h
https-is (a ∷ ps) h = lt-ltb _ _ h

-- the rest of a path
pub path-more : (segment text : List ℕ)
    → is_path (segment ∷ segments text)
    ≡ (not (is_dot_segment segment) && nat_lt 0 (length segment) && is_path (segments text))
path-more segment text = let s = segments-some text in rw s.2 refl

pub path-empty : (segment text : List ℕ) → (length segment == 0) ≡ true
    → is_path (segment ∷ segments text) ≡ false
path-empty segment text e =
    let none : nat_lt 0 (length segment) ≡ false = le-ltb _ _ (omega (arith, eqb-true _ _ e)) in
    path-more segment text ∙ and_left _ _ (and_right (not (is_dot_segment segment)) _ none)

-- ---- answers

pub goes-on : (P : List (List ℕ) → Type 0) (test : List (List ℕ) → Bool)
    → ((ps : List (List ℕ)) → test ps ≡ true → P ps)
    → ((ps : List (List ℕ)) → P ps → test ps ≡ true)
    → (text rest : List ℕ) (b : Bool) → text ≡ 47 ∷ 47 ∷ rest → b ≡ test (segments rest)
    → (b ≡ true) ↔ GoesOn P text
goes-on P test to from text rest b e h = (
  λ k. (rest, e, to (segments rest) (sym h ∙ k)),
  λ g. let same : g.0 ≡ rest = let q : 47 ∷ 47 ∷ g.0 ≡ 47 ∷ 47 ∷ rest = sym g.1 ∙ e in cc in
      h ∙ ap (λ (t : List ℕ). test (segments t)) (sym same) ∙ from (segments g.0) g.2,
)

-- the text goes on otherwise after its scheme
pub uri-bad : (scheme : List ℕ) (P : List (List ℕ) → Type 0) (text rest : List ℕ)
    → Follows scheme text rest → (GoesOn P rest → ⊥) → ¬ IsUri scheme P text
uri-bad scheme P text rest f not_so h =
    not_so (subst (GoesOn P) (follows-one scheme text h.1.0 rest h.1.1 f) h.1.2)

-- ---- joined texts

follows-longer : (scheme text rest more : List ℕ) → Follows scheme text rest
    → Follows scheme (text ++ more) (rest ++ more)
follows-longer scheme text rest more f =
    (f.0, ap (λ (t : List ℕ). t ++ more) f.1 ∙ append_assoc f.0 (58 ∷ rest) more, f.2)

scheme-kept : (scheme text a b : List ℕ) (t : Bool) → HasScheme scheme text
    → HasScheme scheme (cond t (text ++ a) (text ++ b))
scheme-kept scheme text a b true h = (h.0 ++ a, follows-longer scheme text h.0 a h.1)
scheme-kept scheme text a b false h = (h.0 ++ b, follows-longer scheme text h.0 b h.1)

-- a joined text has the scheme of the first one
pub joined-of : (base name text : List ℕ) (result : Result (List ℕ) Error) → IsRsync base
    → text ≡ join_text base name → IsUriOf (codes "rsync") AreRsyncSegments text result
    → IsJoined base name result
joined-of base name text (Ok uri) b e h = (h.0 ∙ e, subst IsRsync e h.1)
joined-of base name text (Err InvalidCharacters) b e h = subst (λ x. ¬ AreUriOctets x) e h
joined-of base name text (Err BadScheme) b e h =
    absurd (h.1 (subst (HasScheme (codes "rsync")) (sym e)
    (scheme-kept (codes "rsync") base name (47 ∷ name) (ends_with nat_eq base (47 ∷ []))
    (b.1.0, b.1.1))))
joined-of base name text (Err BadUri) b e h =
    (subst AreUriOctets e h.0, subst (λ x. ¬ IsRsync x) e h.2)
joined-of base name text (Err Memory) b e h = tt
