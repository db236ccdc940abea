-- Skipped values are read exactly.
use Rattle.std.proofs.Common.{◌≡◌, ℕ, zero, suc, ◌-◌, ◌<◌, ◌≤◌, Bool, true, false, List, [], ◌∷◌}
use Rattle.std.proofs.Common.{◌++◌, length, Option, Some, None, refl, ap, subst, ◌∙◌, arith}
use Rattle.std.proofs.lemmas.List.{length-append}
use Rattle.rpki_der.specs.Identifier.{is_constructed}
use Rattle.rpki_der.specs.declared.mode.Mode.{Mode}
use Rattle.rpki_der.specs.Numbers.{MAX_DEPTH}
use Rattle.rpki_der.specs.Read.Parse.{Parser, ◌>>=◌, any_at, each, all_of, there, skipped, skip_at}
use Rattle.rpki_der.specs.Read.Parse.{skip_all_at}
use Rattle.rpki_der.specs.Grammar.{Items, ListOf, Skipped, IsBytes}
use Rattle.rpki_der.specs.Read.Exact.{IsExact, anything}
use Rattle.rpki_der.proofs.Reading.Lengths.{bind_some, some_is}
use Rattle.rpki_der.proofs.Reading.Scan.{value-some}
use Rattle.rpki_der.proofs.Reading.Exact.{any-sound, any-complete, IsBytes-right, IsBytes-contents}
use Rattle.rpki_der.proofs.Reading.Exact.{IsExactContents}

-- p takes an octet at least
pub record Takes {X : Type 0} (p : List ℕ → Option (X × List ℕ)) : Type 0 where
  pub at : (b : List ℕ) (x : X) (r : List ℕ) → p b ≡ Some (x, r) → length r < length b

module _ {X : Type 0} (p : Parser X) (mode : Mode) (takes : Takes (p mode)) where
  one-more : (f g : List ℕ → Option (List X)) (o : Option (X × List ℕ))
      → ((x : X) (r : List ℕ) → o ≡ Some (x, r) → f r ≡ g r)
      → (o >>= λ u. (f u.1 >>= λ xs. Some (u.0 ∷ xs)))
      ≡ (o >>= λ u. (g u.1 >>= λ xs. Some (u.0 ∷ xs)))
  one-more f g None h = refl
  one-more f g (Some (x, r)) h =
      ap (λ (t : Option (List X)). (t >>= λ xs. Some (x ∷ xs))) (h x r refl)

  each-enough : (n m : ℕ) (b : List ℕ) → length b ≤ n → length b ≤ m
      → each n p mode b ≡ each m p mode b
  unfolding each
  each-enough n m [] hn hm = refl
  each-enough zero m (a ∷ b) hn hm = absurd (omega arith)
  each-enough (suc n) zero (a ∷ b) hn hm = absurd (omega arith)
  each-enough (suc n) (suc m) (a ∷ b) hn hm =
      one-more (each n p mode) (each m p mode) (p mode (a ∷ b))
      (λ x r e. let lt = takes.at (a ∷ b) x r e in
      each-enough n m r (omega arith) (omega arith))

  pub all-more : (a : ℕ) (b : List ℕ) (x : X) (r : List ℕ) → p mode (a ∷ b) ≡ Some (x, r)
      → all_of p mode (a ∷ b) ≡ (all_of p mode r >>= λ xs. Some (x ∷ xs))
  unfolding all_of each
  all-more a b x r e =
      let lt = takes.at (a ∷ b) x r e in
      rw e (ap (λ (t : Option (List X)). (t >>= λ xs. Some (x ∷ xs)))
      (each-enough (length b) (length r) r (omega arith) (omega arith)))

  pub all-none : (a : ℕ) (b : List ℕ) → p mode (a ∷ b) ≡ None → all_of p mode (a ∷ b) ≡ None
  unfolding all_of each
  all-none a b e = rw e refl

  pub all-end : all_of p mode [] ≡ Some []
  unfolding all_of each
  all-end = refl

  module _ (G : List ℕ → X → Type 0) (exact : IsExact anything (p mode) G) where
    each-sound : (n : ℕ) (b : List ℕ) (xs : List X) → IsBytes b → each n p mode b ≡ Some xs
        → Items G b xs
    unfolding each
    each-sound n [] xs bytes e = let q : (let l : List X = [] in l) ≡ xs = some_is _ _ e in
        subst (λ (l : List X). Items G [] l) q refl
    each-sound zero (a ∷ b) xs bytes e =
        absurd (let no : (let o : Option (List X) = None in o) ≡ Some xs = e in cc)
    each-sound (suc n) (a ∷ b) xs bytes e =
        let u = bind_some (p mode (a ∷ b)) _ xs e in
        let v = bind_some (each n p mode u.0.1) _ xs u.2 in
        let q : (let l : List X = u.0.0 ∷ v.0 in l) ≡ xs = some_is _ _ v.2 in
        let f = exact.sound (a ∷ b) u.0.0 u.0.1 bytes u.1 in
        let others = each-sound n u.0.1 v.0
        (IsBytes-right f.0 u.0.1 (subst IsBytes f.1 bytes)) v.1 in
        subst (λ (l : List X). Items G (a ∷ b) l) q (f.0, u.0.1, f.1, f.2, others)

    some-front : (o : List ℕ) (x : X) (r : List ℕ) → G o x → (a : ℕ) × (b : List ℕ) × (o ≡ a ∷ b)
    some-front [] x r g =
        absurd (let lt : length r < length r = takes.at r x r (exact.complete [] x r tt g) in
        omega (arith, lt))
    some-front (a ∷ b) x r g = (a, b, refl)

    all-complete : (b : List ℕ) (xs : List X) → Items G b xs → all_of p mode b ≡ Some xs
    all-complete b [] h = rw h all-end
    all-complete b (x ∷ xs) h =
        let f = some-front h.0 x h.1 h.3 in
        let read : p mode (f.0 ∷ (f.1 ++ h.1)) ≡ Some (x, h.1) =
        subst (λ (o : List ℕ). p mode (o ++ h.1) ≡ Some (x, h.1)) f.2
        (exact.complete h.0 x h.1 tt h.3) in
        let here : b ≡ f.0 ∷ (f.1 ++ h.1) = h.2 ∙ ap (λ (o : List ℕ). o ++ h.1) f.2 in
        rw here (all-more f.0 (f.1 ++ h.1) x h.1 read ∙ rw (all-complete h.1 xs h.4) refl)

    -- all of the octets are read exactly
    pub exact-all : IsExactContents (all_of p mode) (Items G)
    unfolding all_of
    exact-all = record {
      sound = λ b xs bytes e. each-sound (length b) b xs bytes e;
      complete = λ b xs h. all-complete b xs h;
    }

-- ---- skipped values

pub there-some : {X : Type 0} (o : Option X) (u : Unit {0}) → there o ≡ Some u
    → (x : X) × (o ≡ Some x)
there-some None u e = absurd cc
there-some (Some x) u e = (x, refl)

pub skip-takes : (depth : ℕ) (mode : Mode) → Takes (skip_at depth mode)
unfolding skip_at
skip-takes zero mode = record { at = λ b x r e. absurd cc }
skip-takes (suc depth) mode = record {
  at = λ b x r e.
      let v = bind_some (any_at mode b) _ (x, r) e in
      let w = bind_some (skipped (skip_at depth) mode v.0.0.0 v.0.0.1) _ (x, r) v.2 in
      let q : (let t : Unit {0} × List ℕ = (tt, v.0.1) in t) ≡ (x, r) = some_is _ _ w.2 in
      let rest : v.0.1 ≡ r = ap (λ (t : Unit {0} × List ℕ). t.1) q in
      let f = any-sound mode b v.0.0 v.0.1 v.1 in
      let len : length b ≡ length (f.0 ++ v.0.1) = ap length f.1 in
      subst (λ (t : List ℕ). length t < length b) rest
      (omega (arith, len, length-append f.0 v.0.1, value-some mode f.0 v.0.0.0 v.0.0.1 f.2));
}

-- what the contents are
skipped-sound : (p : Parser (Unit {0})) (mode : Mode) (G : List ℕ → Type 0)
    → IsExactContents (all_of p mode) (Items (λ o _. G o)) → (tag : ℕ) (c : List ℕ) (u : Unit {0})
    → IsBytes c → skipped p mode tag c ≡ Some u → is_constructed tag ≡ true → ListOf G c
skipped-sound p mode G e tag c u bytes h cons =
    let t : there (all_of p mode c) ≡ Some u = rw cons at h in
    let s = there-some (all_of p mode c) u t in
    (s.0, e.sound c s.0 bytes s.1)

skipped-complete : (p : Parser (Unit {0})) (mode : Mode) (G : List ℕ → Type 0)
    → IsExactContents (all_of p mode) (Items (λ o _. G o)) → (tag : ℕ) (c : List ℕ) (t : Bool)
    → is_constructed tag ≡ t → (is_constructed tag ≡ true → ListOf G c)
    → skipped p mode tag c ≡ Some tt
skipped-complete p mode G e tag c true is h = let l = h is in rw is (rw (e.complete c l.0 l.1) refl)
skipped-complete p mode G e tag c false is h = rw is refl

pub exact-skip : (depth : ℕ) (mode : Mode)
    → IsExact anything (skip_at depth mode) (λ o _. Skipped mode depth o)
unfolding skip_at Skipped
exact-skip zero mode =
    record { sound = λ b x r bytes e. absurd cc; complete = λ o x r er h. absurd h }
exact-skip (suc depth) mode =
    let inner = exact-all (skip_at depth) mode (skip-takes depth mode) (λ o _. Skipped mode depth o)
    (exact-skip depth mode) in
    record {
      sound = λ b x r bytes e.
          let v = bind_some (any_at mode b) _ (x, r) e in
          let w = bind_some (skipped (skip_at depth) mode v.0.0.0 v.0.0.1) _ (x, r) v.2 in
          let q : (let t : Unit {0} × List ℕ = (tt, v.0.1) in t) ≡ (x, r) = some_is _ _ w.2 in
          let f = any-sound mode b v.0.0 v.0.1 v.1 in
          let within = IsBytes-contents mode b f.0 v.0.1 v.0.0.0 v.0.0.1 f.1 f.2 bytes in (
            f.0,
            f.1 ∙ ap (λ (t : Unit {0} × List ℕ). f.0 ++ t.1) q,
            (
              v.0.0.0,
              v.0.0.1,
              f.2,
              skipped-sound (skip_at depth) mode
                  (Skipped mode depth) inner v.0.0.0 v.0.0.1 w.0 within w.1,
            ),
          );
      complete = λ o x r er h.
          let a = any-complete mode o h.0 h.1 r h.2 in
          let s = skipped-complete (skip_at depth) mode (Skipped mode depth) inner h.0 h.1
          (is_constructed h.0) refl h.3 in
          rw (a, s) refl;
    }

-- ---- what the code that skips needs

pub skip-front : (depth : ℕ) (mode : Mode) (b : List ℕ) (x : Unit {0}) (r : List ℕ)
    → skip_at depth mode b ≡ Some (x, r) → (front : List ℕ) × (b ≡ front ++ r)
unfolding skip_at
skip-front zero mode b x r e = absurd cc
skip-front (suc depth) mode b x r e =
    let v = bind_some (any_at mode b) _ (x, r) e in
    let w = bind_some (skipped (skip_at depth) mode v.0.0.0 v.0.0.1) _ (x, r) v.2 in
    let q : (let t : Unit {0} × List ℕ = (tt, v.0.1) in t) ≡ (x, r) = some_is _ _ w.2 in
    let f = any-sound mode b v.0.0 v.0.1 v.1 in
    (f.0, f.1 ∙ ap (λ (t : Unit {0} × List ℕ). f.0 ++ t.1) q)

pub skip-none : (depth : ℕ) (mode : Mode) (b : List ℕ) → any_at mode b ≡ None
    → skip_at depth mode b ≡ None
unfolding skip_at
skip-none zero mode b e = refl
skip-none (suc depth) mode b e = rw e refl

pub skip-none-at : (depth : ℕ) (mode : Mode) (b : List ℕ) → depth ≡ 0 → skip_at depth mode b ≡ None
unfolding skip_at
skip-none-at zero mode b e = refl
skip-none-at (suc depth) mode b e = absurd (omega (arith, e))

pub skip-is : (depth : ℕ) (mode : Mode) (b : List ℕ) (t : ℕ) (c r : List ℕ) → 1 ≤ depth
    → any_at mode b ≡ Some ((t, c), r)
    → skip_at depth mode b ≡ (skipped (skip_at (depth - 1)) mode t c >>= λ _. Some (tt, r))
unfolding skip_at
skip-is zero mode b t c r h e = absurd (omega (arith, h))
skip-is (suc depth) mode b t c r h e = let z : suc depth - 1 ≡ depth = omega arith in rw (e, z) refl

pub skip-primitive : (depth : ℕ) (mode : Mode) (b : List ℕ) (t : ℕ) (c r : List ℕ) → 1 ≤ depth
    → any_at mode b ≡ Some ((t, c), r) → is_constructed t ≡ false
    → skip_at depth mode b ≡ Some (tt, r)
skip-primitive depth mode b t c r h e cons = rw (skip-is depth mode b t c r h e) (rw cons refl)

pub skip-constructed : (depth : ℕ) (mode : Mode) (b : List ℕ) (t : ℕ) (c r : List ℕ)
    (o : Option (Unit {0})) → 1 ≤ depth → any_at mode b ≡ Some ((t, c), r) → is_constructed t ≡ true
    → there (all_of (skip_at (depth - 1)) mode c) ≡ o
    → skip_at depth mode b ≡ (o >>= λ _. Some (tt, r))
skip-constructed depth mode b t c r o h e cons is =
    rw (skip-is depth mode b t c r h e) (rw (cons, is) refl)

there-of : {X : Type 0} (x : X) (o : Option (List X)) → there (o >>= λ xs. Some (x ∷ xs)) ≡ there o
there-of x None = refl
there-of x (Some xs) = refl

pub there-more : {X : Type 0} (p : Parser X) (mode : Mode) → Takes (p mode)
    → (b : List ℕ) (x : X) (r : List ℕ) → p mode b ≡ Some (x, r)
    → there (all_of p mode b) ≡ there (all_of p mode r)
there-more p mode takes [] x r e = absurd (let lt = takes.at [] x r e in omega (arith, lt))
there-more p mode takes (a ∷ b) x r e = ap there (all-more p mode takes a b x r e)
    ∙ there-of x (all_of p mode r)

pub there-none : {X : Type 0} (p : Parser X) (mode : Mode) → Takes (p mode) → (b : List ℕ)
    → 1 ≤ length b → p mode b ≡ None → there (all_of p mode b) ≡ None
there-none p mode takes [] h e = absurd (omega (arith, h))
there-none {X} p mode takes (a ∷ b) h e = ap there (all-none p mode takes a b e)

pub there-end : {X : Type 0} (p : Parser X) (mode : Mode) → Takes (p mode) → (b : List ℕ)
    → length b ≡ 0 → there (all_of p mode b) ≡ Some tt
there-end p mode takes [] e = ap there (all-end p mode takes)
there-end p mode takes (a ∷ b) e = absurd (omega (arith, e))

-- ---- all that is left

pub skip-all-sound : (mode : Mode) (b : List ℕ) → IsBytes b → skip_all_at mode b ≡ Some (tt, [])
    → ListOf (Skipped mode MAX_DEPTH) b
skip-all-sound mode b bytes e =
    let t = bind_some (there (all_of (skip_at MAX_DEPTH) mode b)) _ (tt, []) e in
    let s = there-some (all_of (skip_at MAX_DEPTH) mode b) t.0 t.1 in (
      s.0,
      (exact-all (skip_at MAX_DEPTH) mode (skip-takes MAX_DEPTH mode)
          (λ o _. Skipped mode MAX_DEPTH o) (exact-skip MAX_DEPTH mode)).sound b s.0 bytes s.1,
    )

pub skip-all-complete : (mode : Mode) (b : List ℕ) → ListOf (Skipped mode MAX_DEPTH) b
    → skip_all_at mode b ≡ Some (tt, [])
skip-all-complete mode b l =
    rw ((exact-all (skip_at MAX_DEPTH) mode (skip-takes MAX_DEPTH mode)
    (λ o _. Skipped mode MAX_DEPTH o) (exact-skip MAX_DEPTH mode)).complete b l.0 l.1) refl
