-- Reading is exact.
use Rattle.std.proofs.Common.{◌≡◌, ℕ, suc, ◌<◌, Bool, true, false, cond, List, [], ◌∷◌, ◌++◌}
use Rattle.std.proofs.Common.{get_or, Option, Some, None, refl, sym, ap, subst, ◌∙◌, append_assoc}
use Rattle.std.proofs.Common.{inl, inr, eq-eqb}
use Rattle.std.proofs.lemmas.List.{append-nil}
use Rattle.std.specs.Prelude.{nat_eq}
use Rattle.std.proofs.lemmas.Bool.{eqb-true}
use Rattle.rpki_der.specs.declared.mode.Mode.{Mode}
use Rattle.rpki_der.specs.Read.Parse.{Parser, ◌>>=◌, body_at, value_at, any_at, whole, in_value}
use Rattle.rpki_der.specs.Read.Parse.{primitive}
use Rattle.rpki_der.specs.Grammar.{Value, Front, Within, IsBytes}
use Rattle.rpki_der.specs.Read.Exact.{IsExact, anything}
use Rattle.rpki_der.proofs.Reading.Lengths.{bind_some, chosen, some_is}
use Rattle.rpki_der.proofs.Reading.Scan.{body-sound, body-complete, shape}

-- ---- values

pub value-sound : (tag : ℕ) (mode : Mode) (b contents rest : List ℕ)
    → value_at tag mode b ≡ Some (contents, rest)
    → Front (λ o c. Value mode o tag c) b contents rest
unfolding value_at
value-sound tag mode [] contents rest e = absurd cc
value-sound tag mode (t ∷ b) contents rest e =
    elim (chosen (nat_eq t tag) _ _ _ e) [
      | inl h ↦
          let f = body-sound tag mode b contents rest h.1 in
          (f.0, ap (λ (x : ℕ). x ∷ b) (eqb-true _ _ h.0) ∙ f.1, f.2)
      | inr h ↦ absurd (let no : (let n : Option (List ℕ × List ℕ) = None in
          n) ≡ Some (contents, rest) = h.1 in cc)
    ]

value-there : (tag : ℕ) (mode : Mode) (b : List ℕ) (r : List ℕ × List ℕ)
    → body_at tag mode b ≡ Some r → value_at tag mode (tag ∷ b) ≡ Some r
unfolding value_at
value-there tag mode b r e = let same : nat_eq tag tag ≡ true = eq-eqb tag tag refl in rw same e

pub value-complete : (tag : ℕ) (mode : Mode) (o contents rest : List ℕ) → Value mode o tag contents
    → value_at tag mode (o ++ rest) ≡ Some (contents, rest)
value-complete tag mode o contents rest v =
    let b = body-complete tag mode o contents rest v in
    rw b.1 (value-there tag mode b.0 (contents, rest) b.2)

-- any value
pub any-sound : (mode : Mode) (b : List ℕ) (v : ℕ × List ℕ) (rest : List ℕ)
    → any_at mode b ≡ Some (v, rest) → Front (λ o w. Value mode o w.0 w.1) b v rest
unfolding any_at
any-sound mode [] v rest e = absurd cc
any-sound mode (t ∷ b) v rest e =
    let n = bind_some (body_at t mode b) _ (v, rest) e in
    let q : (let x : (ℕ × List ℕ) × List ℕ = ((t, n.0.0), n.0.1) in
    x) ≡ (v, rest) = some_is _ _ n.2 in
    let f = body-sound t mode b n.0.0 n.0.1 n.1 in (
      f.0,
      f.1 ∙ ap (λ (x : (ℕ × List ℕ) × List ℕ). f.0 ++ x.1) q,
      subst (λ (x : (ℕ × List ℕ) × List ℕ). Value mode f.0 x.0.0 x.0.1) q f.2,
    )

any-there : (t : ℕ) (mode : Mode) (b c r : List ℕ) → body_at t mode b ≡ Some (c, r)
    → any_at mode (t ∷ b) ≡ Some ((t, c), r)
unfolding any_at
any-there t mode b c r e = rw e refl

pub any-complete : (mode : Mode) (o : List ℕ) (t : ℕ) (c rest : List ℕ) → Value mode o t c
    → any_at mode (o ++ rest) ≡ Some ((t, c), rest)
any-complete mode o t c rest v =
    let b = body-complete t mode o c rest v in
    rw b.1 (any-there t mode b.0 c rest b.2)

-- ---- combinators

abbrev pub the_end : List ℕ → Type 0
the_end rest = rest ≡ []

pub IsBytes-right : (a b : List ℕ) → IsBytes (a ++ b) → IsBytes b
IsBytes-right [] b h = h
IsBytes-right (x ∷ a) b h = IsBytes-right a b h.1

pub IsBytes-left : (a b : List ℕ) → IsBytes (a ++ b) → IsBytes a
IsBytes-left [] b h = tt
IsBytes-left (x ∷ a) b h = (h.0, IsBytes-left a b h.1)

-- what follows a front
IsBytes-after : (octets front rest : List ℕ) → octets ≡ front ++ rest → IsBytes octets
    → IsBytes rest
IsBytes-after octets front rest e h = IsBytes-right front rest (subst IsBytes e h)

pub IsBytes-contents : (mode : Mode) (octets front rest : List ℕ) (tag : ℕ) (contents : List ℕ)
    → octets ≡ front ++ rest → Value mode front tag contents → IsBytes octets → IsBytes contents
IsBytes-contents mode octets front rest tag contents e v h =
    let s = shape mode front tag contents v in
    let a : IsBytes (tag ∷ (s.0 ++ (contents ++ s.1))) =
    subst IsBytes s.2 (IsBytes-left front rest (subst IsBytes e h)) in
    IsBytes-left contents s.1 (IsBytes-right s.0 (contents ++ s.1) a.1)

pub exact-value : (tag : ℕ) (mode : Mode)
    → IsExact anything (value_at tag mode) (λ o c. Value mode o tag c)
exact-value tag mode = record {
  sound = λ b c r _ e. value-sound tag mode b c r e;
  complete = λ o c r _ v. value-complete tag mode o c r v;
}

pub exact-any : (mode : Mode) → IsExact anything (any_at mode) (λ o v. Value mode o v.0 v.1)
exact-any mode = record {
  sound = λ b v r _ e. any-sound mode b v r e;
  complete = λ o v r _ h. any-complete mode o v.0 v.1 r h;
}

-- one thing, and then another
pub exact-then : {X Y : Type 0} (e1 e2 : List ℕ → Type 0) (p : List ℕ → Option (X × List ℕ)) (q : X
    → List ℕ → Option (Y × List ℕ)) (G : List ℕ → X → Type 0) (H : X → List ℕ → Y → Type 0)
    → IsExact e1 p G → ((x : X) → IsExact e2 (q x) (H x))
    → ((x : X) (o : List ℕ) (y : Y) (r : List ℕ) → H x o y → e2 r → e1 (o ++ r))
    → IsExact e2 (λ b. p b >>= λ u. q u.0 u.1)
    (λ o y. (x : X) × (o1 : List ℕ) × (o2 : List ℕ) × (o ≡ o1 ++ o2) × G o1 x × H x o2 y)
exact-then {X} {Y} e1 e2 p q G H ep eq follows = record {
  sound = λ b y r bytes e.
      let s = bind_some (p b) (λ u. q u.0 u.1) (y, r) e in
      let f = ep.sound b s.0.0 s.0.1 bytes s.1 in
      let g = (eq s.0.0).sound s.0.1 y r (IsBytes-after b f.0 s.0.1 f.1 bytes) s.2 in (
        f.0 ++ g.0,
        f.1 ∙ ap (λ (t : List ℕ). f.0 ++ t) g.1
            ∙ sym (append_assoc f.0 g.0 r),
        (s.0.0, f.0, g.0, refl, f.2, g.2),
      );
  complete = λ o y r er h.
      let first : p (h.1 ++ (h.2 ++ r)) ≡ Some (h.0, h.2 ++ r) =
      ep.complete h.1 h.0 (h.2 ++ r) (follows h.0 h.2 y r h.5 er) h.4 in
      let second : q h.0 (h.2 ++ r) ≡ Some (y, r) = (eq h.0).complete h.2 y r er h.5 in
      rw h.3 (rw (append_assoc h.1 h.2 r, first) second);
}

-- what a beginning is shown to be under another grammar, or another spelling of the reader
pub exact-as : {X : Type 0} (ends : List ℕ → Type 0) (p : List ℕ → Option (X × List ℕ))
    (G H : List ℕ → X → Type 0) → IsExact ends p G → ((o : List ℕ) (x : X) → G o x → H o x)
    → ((o : List ℕ) (x : X) → H o x → G o x) → IsExact ends p H
exact-as ends p G H e to from = record {
  sound = λ b x r bytes h. let f = e.sound b x r bytes h in (f.0, f.1, to f.0 x f.2);
  complete = λ o x r er h. e.complete o x r er (from o x h);
}

-- nothing is read
pub exact-done : {Y : Type 0} (ends : List ℕ → Type 0) (y : Y)
    → IsExact ends (λ b. Some (y, b)) (λ o z. (o ≡ []) × (y ≡ z))
exact-done {Y} ends y = record {
  sound = λ b z r _ e. let p : (let q : Y × List ℕ = (y, b) in q) ≡ (z, r) = some_is _ _ e in
      ([], ap (λ (q : Y × List ℕ). q.1) p, (refl, ap (λ (q : Y × List ℕ). q.0) p));
  complete = λ o z r _ h. rw (h.0, h.1) refl;
}

-- a test of what was read
pub exact-guard : {Y : Type 0} (ends : List ℕ → Type 0) (test : Bool) (p : List ℕ
    → Option (Y × List ℕ)) (G : List ℕ → Y → Type 0) → IsExact ends p G
    → IsExact ends (λ b. cond test (p b) None) (λ o y. (test ≡ true) × G o y)
exact-guard ends true p G e = record {
  sound = λ b y r bytes h. let f = e.sound b y r bytes h in (f.0, f.1, (refl, f.2));
  complete = λ o y r er h. e.complete o y r er h.1;
}
exact-guard ends false p G e = record {
  sound = λ b y r _ h. absurd cc;
  complete = λ o y r er h. absurd (let no : false ≡ true = h.0 in cc);
}

-- ---- values whose contents are understood

pub whole-some : {X : Type 0} (f : Option (X × List ℕ)) (x : X) → whole f ≡ Some x
    → f ≡ Some (x, [])
whole-some None x e = absurd cc
whole-some (Some (y, [])) x e = let p : y ≡ x = some_is _ _ e in ap (λ (z : _). Some (z, [])) p
whole-some (Some (y, b ∷ r)) x e = absurd cc

-- a value with this tag whose contents are in G
pub exact-in : {X : Type 0} (tag : ℕ) (p : Parser X) (mode : Mode) (G : List ℕ → X → Type 0)
    → IsExact the_end (p mode) G
    → IsExact anything (in_value tag p mode) (λ o x. Within mode tag (λ c. G c x) o)
exact-in {X} tag p mode G e = record {
  sound = λ b x r bytes h.
      let v = bind_some (value_at tag mode b) _ (x, r) h in
      let f = value-sound tag mode b v.0.0 v.0.1 v.1 in
      let w = bind_some (whole (p mode v.0.0)) _ (x, r) v.2 in
      let q : (let t : X × List ℕ = (w.0, v.0.1) in t) ≡ (x, r) = some_is _ _ w.2 in
      let found = e.sound v.0.0 w.0 [] (IsBytes-contents mode b f.0 v.0.1 tag v.0.0 f.1 f.2 bytes)
      (whole-some _ _ w.1) in
      let all : v.0.0 ≡ found.0 = found.1 ∙ append-nil found.0 in (
        f.0,
        f.1 ∙ ap (λ (t : X × List ℕ). f.0 ++ t.1) q,
        (
          v.0.0,
          f.2,
          subst (λ (t : X × List ℕ). G v.0.0 t.0) q
              (subst (λ (c : List ℕ). G c w.0) (sym all) found.2),
        ),
      );
  complete = λ o x r _ h.
      let inner : p mode (h.0 ++ []) ≡ Some (x, []) = e.complete h.0 x [] refl h.2 in
      let here : p mode h.0 ≡ Some (x, []) =
      subst (λ (c : List ℕ). p mode c ≡ Some (x, [])) (append-nil h.0) inner in
      rw (value-complete tag mode o h.0 r h.1) (rw here refl);
}

-- f understands exactly the contents in M
pub record IsExactContents {X : Type 0} (f : List ℕ → Option X) (M : List ℕ → X
    → Type 0) : Type 0 where
  pub sound : (c : List ℕ) (x : X) → IsBytes c → f c ≡ Some x → M c x
  pub complete : (c : List ℕ) (x : X) → M c x → f c ≡ Some x

pub exact-primitive : {X : Type 0} (tag : ℕ) (f : List ℕ → Option X) (mode : Mode) (M : List ℕ → X
    → Type 0) → IsExactContents f M
    → IsExact anything (primitive tag f mode) (λ o x. Within mode tag (λ c. M c x) o)
exact-primitive {X} tag f mode M e = record {
  sound = λ b x r bytes h.
      let v = bind_some (value_at tag mode b) _ (x, r) h in
      let w = bind_some (f v.0.0) _ (x, r) v.2 in
      let q : (let t : X × List ℕ = (w.0, v.0.1) in t) ≡ (x, r) = some_is _ _ w.2 in
      let g = value-sound tag mode b v.0.0 v.0.1 v.1 in (
        g.0,
        g.1 ∙ ap (λ (t : X × List ℕ). g.0 ++ t.1) q,
        (
          v.0.0,
          g.2,
          subst (λ (t : X × List ℕ). M v.0.0 t.0) q
              (e.sound v.0.0 w.0 (IsBytes-contents mode b g.0 v.0.1 tag v.0.0 g.1 g.2 bytes) w.1),
        ),
      );
  complete = λ o x r _ h. rw (value-complete tag mode o h.0 r h.1) (rw (e.complete h.0 x h.2) refl);
}

-- a reader that is exact wherever it ends is so before any end
pub exact-before : {X : Type 0} (ends : List ℕ → Type 0) (p : List ℕ → Option (X × List ℕ))
    (G : List ℕ → X → Type 0) → IsExact anything p G → IsExact ends p G
exact-before ends p G e = record { sound = e.sound; complete = λ o x r _ h. e.complete o x r tt h }

-- what the octets of a slice are
pub IsBytes-of : (b : List ℕ) → ((i : ℕ) → get_or b i 0 < 256) → IsBytes b
IsBytes-of [] h = tt
IsBytes-of (x ∷ b) h = (h 0, IsBytes-of b (λ i. h (suc i)))

-- whatever the contents are
pub exact-contents : (tag : ℕ) (mode : Mode)
    → IsExact anything (primitive tag Some mode) (λ o c. Value mode o tag c)
exact-contents tag mode =
    exact-as anything (primitive tag Some mode) (λ o x. Within mode tag (λ c. c ≡ x) o)
    (λ o c. Value mode o tag c)
    (exact-primitive tag Some mode (λ c x. c ≡ x)
    (record { sound = λ c x _ e. some_is c x e; complete = λ c x h. rw h refl }))
    (λ o x h. subst (λ (c : List ℕ). Value mode o tag c) h.2 h.1) (λ o x v. (x, v, refl))
