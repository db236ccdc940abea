-- Lines of a text, one after the other.
use Rattle.std.proofs.Common.{◌≡◌, ◌≢◌, ℕ, List, [], ◌∷◌, ◌++◌, refl, sym, ap, subst, ◌∙◌}
use Rattle.std.proofs.Common.{arith, append_assoc, get_or}
use Rattle.std.proofs.lemmas.List.{append-nil}
use Rattle.std.proofs.lemmas.List.Elements.{All-cons, All-head, All-tail}
use Rattle.rpki_der.specs.Grammar.{Items, Front, HasNoFront}
use Rattle.rpki_tal.specs.Lines.{IsOneLine, IsLine, IsComment, without_cr}
use Rattle.rpki_tal.specs.Faults.{EndsInComment}

-- two texts up to their first line feed
pub line-one : (a b r s : List ℕ) → IsOneLine a → IsOneLine b → a ++ 10 ∷ r ≡ b ++ 10 ∷ s
    → (a ≡ b) × (r ≡ s)
line-one [] [] r s one two e = (refl, cc)
line-one [] (y ∷ b) r s one two e =
    absurd (All-head (λ c. c ≢ 10) y b two (let q : 10 ≡ y = cc in sym q))
line-one (x ∷ a) [] r s one two e =
    absurd (All-head (λ c. c ≢ 10) x a one (let q : x ≡ 10 = cc in q))
line-one (x ∷ a) (y ∷ b) r s one two e =
    let head : x ≡ y = cc in
    let tail : a ++ 10 ∷ r ≡ b ++ 10 ∷ s = cc in
    let k = line-one a b r s (All-tail (λ c. c ≢ 10) x a one) (All-tail (λ c. c ≢ 10) y b two)
    tail in
    (cc (head, k.0), k.1)

-- a text without a line feed has no line
pub line-none : (a b s : List ℕ) → IsOneLine a → a ≡ b ++ 10 ∷ s → ⊥
line-none [] [] s one e = absurd cc
line-none [] (y ∷ b) s one e = absurd cc
line-none (x ∷ a) [] s one e = All-head (λ c. c ≢ 10) x a one (let q : x ≡ 10 = cc in q)
line-none (x ∷ a) (y ∷ b) s one e =
    line-none a b s (All-tail (λ c. c ≢ 10) x a one) (let q : a ≡ b ++ 10 ∷ s = cc in q)

-- each that is in the grammar is one line, and has one meaning
pub record IsLineKind {X : Type 0} (G : List ℕ → X → Type 0) : Type 0 where
  pub line : (octets : List ℕ) (x : X) → G octets x
      → (l : List ℕ) × IsOneLine l × (octets ≡ l ++ 10 ∷ [])
  pub one : (octets : List ℕ) (x y : X) → G octets x → G octets y → x ≡ y

-- what the first line is, and what follows it
pub first-line : {X : Type 0} (G : List ℕ → X → Type 0) → IsLineKind G → (a b r s : List ℕ)
    (x y : X) → G a x → G b y → a ++ r ≡ b ++ s → (a ≡ b) × (x ≡ y) × (r ≡ s)
first-line G k a b r s x y g h e =
    let l = k.line a x g in
    let m = k.line b y h in
    let p : a ++ r ≡ l.0 ++ 10 ∷ r = ap (λ (t : List ℕ). t ++ r) l.2
    ∙ append_assoc l.0 (10 ∷ []) r in
    let q : b ++ s ≡ m.0 ++ 10 ∷ s = ap (λ (t : List ℕ). t ++ s) m.2
    ∙ append_assoc m.0 (10 ∷ []) s in
    let same = line-one l.0 m.0 r s l.1 m.1 (sym p ∙ e ∙ q) in
    let octets : a ≡ b = l.2 ∙ ap (λ (t : List ℕ). t ++ 10 ∷ []) same.0 ∙ sym m.2 in
    (octets, k.one b x y (subst (λ (t : List ℕ). G t x) octets g) h, same.1)

-- a text without a line feed begins with no line
pub no-open : {X : Type 0} (G : List ℕ → X → Type 0) → IsLineKind G → (rest : List ℕ)
    → IsOneLine rest → HasNoFront G rest
no-open G k rest one x more f =
    let l = k.line f.0 x f.2 in
    line-none rest l.0 more one
    (f.1 ∙ ap (λ (t : List ℕ). t ++ more) l.2 ∙ append_assoc l.0 (10 ∷ []) more)

-- lines up to where none of the kind begins
items-stop : {X : Type 0} (G : List ℕ → X → Type 0) → IsLineKind G → (xs ys : List X)
    (f g r s : List ℕ) → Items G f xs → Items G g ys → f ++ r ≡ g ++ s → HasNoFront G r
    → HasNoFront G s → (xs ≡ ys) × (r ≡ s)
items-stop G k [] [] f g r s h i e n m =
    (refl, ap (λ (t : List ℕ). t ++ r) (sym h) ∙ e ∙ ap (λ (t : List ℕ). t ++ s) i)
items-stop G k [] (y ∷ ys) f g r s h i e n m =
    absurd (n y (i.1 ++ s) (
      i.0,
      ap (λ (t : List ℕ). t ++ r) (sym h) ∙ e
          ∙ ap (λ (t : List ℕ). t ++ s) i.2 ∙ append_assoc i.0 i.1 s,
      i.3,
    ))
items-stop G k (x ∷ xs) [] f g r s h i e n m =
    absurd (m x (h.1 ++ r) (
      h.0,
      ap (λ (t : List ℕ). t ++ s) (sym i) ∙ sym e
          ∙ ap (λ (t : List ℕ). t ++ r) h.2 ∙ append_assoc h.0 h.1 r,
      h.3,
    ))
items-stop {X} G k (x ∷ xs) (y ∷ ys) f g r s h i e n m =
    let p : f ++ r ≡ h.0 ++ (h.1 ++ r) = ap (λ (t : List ℕ). t ++ r) h.2
    ∙ append_assoc h.0 h.1 r in
    let q : g ++ s ≡ i.0 ++ (i.1 ++ s) = ap (λ (t : List ℕ). t ++ s) i.2
    ∙ append_assoc i.0 i.1 s in
    let same = first-line G k h.0 i.0 (h.1 ++ r) (i.1 ++ s) x y h.3 i.3 (sym p ∙ e ∙ q) in
    let others = items-stop G k xs ys h.1 i.1 r s h.4 i.4 same.2 n m in
    (cc (same.1, others.0), others.1)

pub lines-stop : {X : Type 0} (G : List ℕ → X → Type 0) → IsLineKind G → (text : List ℕ)
    (xs ys : List X) (r s : List ℕ) → Front (Items G) text xs r → Front (Items G) text ys s
    → HasNoFront G r → HasNoFront G s → (xs ≡ ys) × (r ≡ s)
lines-stop G k text xs ys r s f g n m =
    items-stop G k xs ys f.0 g.0 r s f.2 g.2 (sym f.1 ∙ g.1) n m

items-push : {X : Type 0} (G : List ℕ → X → Type 0) (o : List ℕ) (xs : List X) (b : List ℕ)
    (x : X) → Items G o xs → G b x → Items G (o ++ b) (xs ++ x ∷ [])
items-push G o [] b x h g = rw h (b, [], sym (append-nil b), g, refl)
items-push G o (y ∷ ys) b x h g = (
  h.0,
  h.1 ++ b,
  ap (λ (t : List ℕ). t ++ b) h.2
      ∙ append_assoc h.0 h.1 b,
  h.3,
  items-push G h.1 ys b x h.4 g,
)

-- one more line
pub lines-push : {X : Type 0} (G : List ℕ → X → Type 0) (text : List ℕ) (xs : List X) (x : X)
    (rest more : List ℕ) → Front (Items G) text xs rest → Front G rest x more
    → Front (Items G) text (xs ++ x ∷ []) more
lines-push G text xs x rest more f g = (
  f.0 ++ g.0,
  f.1 ∙ ap (λ (t : List ℕ). f.0 ++ t) g.1 ∙ sym (append_assoc f.0 g.0 more),
  items-push G f.0 xs g.0 x f.2 g.2,
)

-- no line
pub no-lines : {X : Type 0} (G : List ℕ → X → Type 0) (text : List ℕ) → Front (Items G) text [] text
no-lines G text = ([], refl, refl)

-- ---- comments, and lines of any kind

pub sign-one : (comment : List ℕ) → IsOneLine comment → IsOneLine (35 ∷ comment)
sign-one comment one =
    All-cons (λ c. c ≢ 10) 35 comment (λ e. absurd (omega (arith, e))) one

pub comment-kind : IsLineKind IsComment
comment-kind = record {
  line = λ o c h. (35 ∷ c, sign-one c h.0, h.1);
  one = λ o c d h k.
      let both : 35 ∷ (c ++ 10 ∷ []) ≡ 35 ∷ (d ++ 10 ∷ []) = sym h.1 ∙ k.1 in
      let tail : c ++ 10 ∷ [] ≡ d ++ 10 ∷ [] = cc both in
      (line-one c d [] [] h.0 k.0 tail).0;
}

pub line-kind : IsLineKind IsLine
line-kind = record {
  line = λ o t h. (h.0, h.1, h.2);
  one = λ o t u h k.
      let same = line-one h.0 k.0 [] [] h.1 k.1 (sym h.2 ∙ k.2) in
      h.3 ∙ ap without_cr same.0 ∙ sym k.3;
}

pub no-comment : (list : List ℕ) → ((more : List ℕ) → list ≢ 35 ∷ more)
    → HasNoFront IsComment list
no-comment list n c rest f =
    n ((c ++ 10 ∷ []) ++ rest) (f.1 ∙ ap (λ (t : List ℕ). t ++ rest) f.2.1)

-- a line that begins with # is a comment
pub comment-of : (rest text more : List ℕ) → Front IsLine rest text more
    → (tail : List ℕ) → rest ≡ 35 ∷ tail → (comment : List ℕ) × Front IsComment rest comment more
comment-of rest text more f tail e =
    of f.2.0 f.2.1 (f.1 ∙ ap (λ (t : List ℕ). t ++ more) f.2.2
    ∙ append_assoc f.2.0 (10 ∷ []) more)
  where
    of : (line : List ℕ) → IsOneLine line → rest ≡ line ++ 10 ∷ more
        → (comment : List ℕ) × Front IsComment rest comment more
    of [] one is =
        let sign : ℕ = 35 in
        let no : sign ≡ 10 = cc (e, is) in
        absurd (omega (arith, no))
    of (a ∷ line) one is =
        let sign : a ≡ 35 = cc (e, is) in
        let whole : rest ≡ 35 ∷ ((line ++ 10 ∷ []) ++ more) = is
        ∙ ap (λ (x : ℕ). x ∷ (line ++ 10 ∷ more)) sign
        ∙ ap (λ (t : List ℕ). 35 ∷ t) (sym (append_assoc line (10 ∷ []) more)) in
        (line, (35 ∷ (line ++ 10 ∷ []), whole, (All-tail (λ c. c ≢ 10) a line one, refl)))

-- the text of the first line
pub first-is : (text line rest shown : List ℕ) → text ≡ line ++ 10 ∷ rest → IsOneLine line
    → shown ≡ without_cr line → Front IsLine text shown rest
first-is text line rest shown e one s =
    (line ++ 10 ∷ [], e ∙ sym (append_assoc line (10 ∷ []) rest), (line, one, refl, s))

-- ---- going on by a line

-- comments stand before what is left
abbrev pub AfterComments : List ℕ → List ℕ → Type 0
AfterComments text rest = (comments : List (List ℕ)) × Front (Items IsComment) text comments rest

pub comment-more : (text rest line more : List ℕ) → AfterComments text rest
    → get_or rest 0 0 ≡ 35 → Front IsLine rest line more → AfterComments text more
comment-more text [] line more h sign f = absurd (omega (arith, sign))
comment-more text (a ∷ rest) line more h sign f =
    let k = comment-of (a ∷ rest) line more f rest (ap (λ (x : ℕ). x ∷ rest) sign) in
    (h.0 ++ k.0 ∷ [], lines-push IsComment text h.0 k.0 (a ∷ rest) more h.1 k.1)

pub comment-open : (text rest : List ℕ) → AfterComments text rest → get_or rest 0 0 ≡ 35
    → IsOneLine rest → EndsInComment text
comment-open text [] h sign one = absurd (omega (arith, sign))
comment-open text (a ∷ rest) h sign one = (
  h.0,
  rest,
  subst (λ (x : ℕ).
      Front (Items IsComment) text h.0 (x ∷ rest)) sign h.1,
  All-tail (λ c. c ≢ 10) a rest one,
)
