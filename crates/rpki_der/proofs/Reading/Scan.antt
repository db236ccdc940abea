-- The end of an indefinite value is found exactly.
use Rattle.std.proofs.Common.{◌≡◌, ◌≢◌, ℕ, zero, suc, ◌+◌, ◌-◌, ◌%◌, ◌<◌, ◌≤◌, true, false, List}
use Rattle.std.proofs.Common.{[], ◌∷◌, ◌++◌, length, Option, Some, None, refl, sym, ap, subst, ◌∙◌}
use Rattle.std.proofs.Common.{append_assoc, arith, inl, inr}
use Rattle.std.specs.Prelude.{◌⊎◌, nat_eq}
use Rattle.std.proofs.lemmas.Bool.{eqb-true, eqb-false, ne_eqb}
use Rattle.std.proofs.lemmas.List.{take_at, length-append, append-nil}
use Rattle.rpki_der.specs.Identifier.{IsTag, is_constructed, is_tag}
use Rattle.rpki_der.specs.declared.mode.Mode.{Mode}
use Rattle.rpki_der.specs.declared.mode.Mode.TheVariants.{Der, Ber}
use Rattle.rpki_der.specs.Read.Parse.{contents_at, value_step, outer, step, follow, scan, end_of}
use Rattle.rpki_der.specs.Read.Parse.{before_end, indefinite_at, body_at}
use Rattle.rpki_der.specs.Grammar.{IsLength, Value, Values, definite, indefinite, none, more}
use Rattle.rpki_der.proofs.Reading.Lengths.{bind_some, chosen, some_is, contents-sound}
use Rattle.rpki_der.proofs.Reading.Lengths.{contents-complete, length-first, length-any}

pub none-is : {A : Type 0} (x : A) → (let n : Option A = None in n) ≡ Some x → ⊥
none-is x e = absurd cc

-- an identifier passes the test exactly
pub tag-sound : (t : ℕ) → is_tag t ≡ true → IsTag t
tag-sound t e =
    elim (chosen (nat_eq t 0) _ _ _ e) [
      | inl h ↦ absurd (let no : false ≡ true = h.1 in cc)
      | inr h ↦ elim (chosen (nat_eq (t % 32) 31) _ _ _ h.1) [
        | inl g ↦ absurd (let no : false ≡ true = g.1 in cc)
        | inr g ↦ (eqb-false _ _ h.0, eqb-false _ _ g.0)
      ]
    ]

pub tag-complete : (t : ℕ) → IsTag t → is_tag t ≡ true
tag-complete t h =
    let x : nat_eq t 0 ≡ false = ne_eqb _ _ h.0 in
    let y : nat_eq (t % 32) 31 ≡ false = ne_eqb _ _ h.1 in
    rw (x, y) refl

-- where the contents stand in a value
pub shape : (mode : Mode) (o : List ℕ) (t : ℕ) (c : List ℕ) → Value mode o t c
    → (head : List ℕ) × (tail : List ℕ) × (o ≡ t ∷ (head ++ (c ++ tail)))
shape mode o t c (definite _ _ _ len _ tag is e) =
    (len, [], e ∙ ap (λ (x : List ℕ). t ∷ (len ++ x)) (sym (append-nil c)))
shape mode o t c (indefinite _ _ _ _ m tag cons vs e) = (128 ∷ [], 0 ∷ 0 ∷ [], e)

pub value-some : (mode : Mode) (o : List ℕ) (t : ℕ) (c : List ℕ) → Value mode o t c → 1 ≤ length o
value-some mode o t c v = let s = shape mode o t c v in
    let l : length o ≡ length (t ∷ (s.0 ++ (c ++ s.1))) = ap length s.2 in omega (arith, l)

-- depth values are open, and rest follows the end of the outermost contents
abbrev Nest : ℕ → List ℕ → List ℕ → Type 0
Nest zero b rest = (c : List ℕ) × Values Ber c × (b ≡ c ++ 0 ∷ 0 ∷ rest)
Nest (suc k) b rest = (c : List ℕ) × (s : List ℕ) × Values Ber c × (b ≡ c ++ 0 ∷ 0 ∷ s)
    × Nest k s rest

-- a value in front
prefix : (k : ℕ) (v s rest : List ℕ) (t : ℕ) (d : List ℕ) → Value Ber v t d → Nest k s rest
    → Nest k (v ++ s) rest
prefix zero v s rest t d one h = (
  v ++ h.0,
  more Ber (v ++ h.0) v h.0 t d refl one h.1,
  ap (λ (x : List ℕ). v ++ x) h.2
      ∙ sym (append_assoc v h.0 (0 ∷ 0 ∷ rest)),
)
prefix (suc k) v s rest t d one h = (
  v ++ h.0,
  h.1,
  more Ber (v ++ h.0) v h.0 t d refl one h.2,
  ap (λ (x : List ℕ). v ++ x) h.3
      ∙ sym (append_assoc v h.0 (0 ∷ 0 ∷ h.1)),
  h.4,
)

-- the beginning of an indefinite value in front
opens : (k t : ℕ) (b rest : List ℕ) → IsTag t → is_constructed t ≡ true → Nest (suc k) b rest
    → Nest k (t ∷ 128 ∷ b) rest
opens k t b rest tag cons h =
    let c = h.0 in
    let s = h.1 in
    let one : Value Ber (t ∷ 128 ∷ (c ++ 0 ∷ 0 ∷ [])) t c =
    indefinite Ber (t ∷ 128 ∷ (c ++ 0 ∷ 0 ∷ [])) t c refl tag cons h.2 refl in
    let n : Nest k ((t ∷ 128 ∷ (c ++ 0 ∷ 0 ∷ [])) ++ s) rest =
    prefix k (t ∷ 128 ∷ (c ++ 0 ∷ 0 ∷ [])) s rest t c one h.4 in
    let same : (t ∷ 128 ∷ (c ++ 0 ∷ 0 ∷ [])) ++ s ≡ t ∷ 128 ∷ b =
    ap (λ (x : List ℕ). t ∷ 128 ∷ x) (append_assoc c (0 ∷ 0 ∷ []) s ∙ sym h.3) in
    subst (λ (x : List ℕ). Nest k x rest) same n

-- a value of a definite length
pub definite-front : (mode : Mode) (t : ℕ) (b c r : List ℕ) → IsTag t
    → contents_at mode b ≡ Some (c, r) → (v : List ℕ) × (t ∷ b ≡ v ++ r) × Value mode v t c
definite-front mode t b c r tag e =
    let f = contents-sound mode b c r e in (
      t ∷ (f.0 ++ c),
      ap (λ (x : List ℕ). t ∷ x) (f.1 ∙ sym (append_assoc f.0 c r)),
      definite mode (t ∷ (f.0 ++ c)) t f.0 c tag f.2 refl,
    )

-- what one step shows
abbrev Shows : ℕ → List ℕ → Option ℕ → List ℕ → Type 0
Shows depth b None rest = (depth ≡ 0) × (b ≡ 0 ∷ 0 ∷ rest)
Shows depth b (Some k) s =
    ((depth ≡ suc k) × (b ≡ 0 ∷ 0 ∷ s))
    ⊎ (((k ≡ suc depth) × (t : ℕ) × IsTag t × (is_constructed t ≡ true) × (b ≡ t ∷ 128 ∷ s))
    ⊎ ((k ≡ depth) × (v : List ℕ) × (t : ℕ) × (c : List ℕ) × Value Ber v t c × (b ≡ v ++ s)))

go-is : (n m : Option ℕ) (b c : List ℕ) → (let x : Option (Option ℕ × List ℕ) = Some (n, b) in
    x) ≡ Some (m, c) → (n ≡ m) × (b ≡ c)
go-is n m b c e =
    let q : (let x : Option ℕ × List ℕ = (n, b) in x) ≡ (m, c) = some_is _ _ e in
    (ap (λ (x : Option ℕ × List ℕ). x.0) q, ap (λ (x : Option ℕ × List ℕ). x.1) q)

shows-as : (depth : ℕ) (b : List ℕ) (m : Option ℕ) (n : Option ℕ) (s rest : List ℕ)
    → (n ≡ m) × (s ≡ rest) → Shows depth b n s → Shows depth b m rest
shows-as depth b m n s rest e h =
    subst (λ (x : List ℕ). Shows depth b m x) e.1
    (subst (λ (x : Option ℕ). Shows depth b x s) e.0 h)

two : (t l : ℕ) (b : List ℕ) → t ≡ 0 → l ≡ 0 → t ∷ l ∷ b ≡ 0 ∷ 0 ∷ b
two t l b p q = rw (p, q) refl

step-value : (depth t l : ℕ) (b : List ℕ) (m : Option ℕ) (rest : List ℕ)
    → value_step depth t l b ≡ Some (m, rest) → Shows depth (t ∷ l ∷ b) m rest
unfolding value_step
step-value depth t l b m rest e =
    elim (chosen (is_tag t) _ _ _ e) [
      | inl y ↦ let tag = tag-sound t y.0 in elim (chosen (nat_eq l 128) _ _ _ y.1) [
        | inl h ↦ elim (chosen (is_constructed t) _ _ _ h.1) [
          | inl g ↦
              let l-is : l ≡ 128 = eqb-true _ _ h.0 in
              let here : t ∷ l ∷ b ≡ t ∷ 128 ∷ b = ap (λ (x : ℕ). t ∷ x ∷ b) l-is in
              shows-as depth (t ∷ l ∷ b) m (Some (suc depth)) b rest
              (go-is (Some (suc depth)) m b rest g.1) (inr (inl (refl, t, tag, g.0, here)))
          | inr g ↦ absurd (none-is _ g.1)
        ]
        | inr h ↦
            let v = bind_some (contents_at Ber (l ∷ b)) _ (m, rest) h.1 in
            let o = definite-front Ber t (l ∷ b) v.0.0 v.0.1 tag v.1 in
            shows-as depth (t ∷ l ∷ b) m (Some depth) v.0.1 rest
            (go-is (Some depth) m v.0.1 rest v.2) (inr (inr (refl, o.0, t, v.0.0, o.2, o.1)))
      ]
      | inr y ↦ absurd (none-is _ y.1)
    ]

ended : (depth : ℕ) (b s : List ℕ) → b ≡ 0 ∷ 0 ∷ s → Shows depth b (outer depth) s
ended zero b s e = (refl, e)
ended (suc depth) b s e = inl (refl, e)

step-sound : (depth : ℕ) (b : List ℕ) (m : Option ℕ) (rest : List ℕ) → step depth b ≡ Some (m, rest)
    → Shows depth b m rest
unfolding step
step-sound depth [] m rest e = absurd (none-is _ e)
step-sound depth (t ∷ []) m rest e = absurd (none-is _ e)
step-sound depth (t ∷ l ∷ b) m rest e =
    elim (chosen (nat_eq t 0) _ _ _ e) [
      | inl h ↦ elim (chosen (nat_eq l 0) _ _ _ h.1) [
        | inl g ↦ shows-as depth (t ∷ l ∷ b) m (outer depth) b rest
            (go-is (outer depth) m b rest g.1)
            (ended depth (t ∷ l ∷ b) b (two t l b (eqb-true _ _ h.0) (eqb-true _ _ g.0)))
        | inr g ↦ absurd (none-is _ g.1)
      ]
      | inr h ↦ step-value depth t l b m rest h.1
    ]

nest-done : (depth : ℕ) (b rest : List ℕ) → Shows depth b None rest → Nest depth b rest
nest-done depth b rest h = rw (h.0, h.1) ([], none Ber [] refl, refl)

nest-step : (depth k : ℕ) (b s rest : List ℕ) → Shows depth b (Some k) s → Nest k s rest
    → Nest depth b rest
nest-step depth k b s rest (inl h) n = rw (h.0, h.1) ([], s, none Ber [] refl, refl, n)
nest-step depth k b s rest (inr (inl h)) n =
    rw h.4 (opens depth h.1 s rest h.2 h.3 (subst (λ (x : ℕ). Nest x s rest) h.0 n))
nest-step depth k b s rest (inr (inr h)) n =
    rw h.5 (prefix depth h.1 s rest h.2 h.3 h.4 (subst (λ (x : ℕ). Nest x s rest) h.0 n))

follow-sound : (n depth : ℕ) (b rest : List ℕ) (f : Option (Option ℕ × List ℕ)) → step depth b ≡ f
    → ((k : ℕ) (s : List ℕ) → scan n k s ≡ Some rest → Nest k s rest)
    → follow (scan n) f ≡ Some rest → Nest depth b rest
follow-sound n depth b rest None q ih e = absurd (none-is _ e)
follow-sound n depth b rest (Some (None, s)) q ih e =
    nest-done depth b rest
    (step-sound depth b None rest
    (q ∙ ap (λ (x : List ℕ). (let y : Option (Option ℕ × List ℕ) = Some (None, x) in y))
    (some_is _ _ e)))
follow-sound n depth b rest (Some (Some k, s)) q ih e =
    nest-step depth k b s rest (step-sound depth b (Some k) s q) (ih k s e)

scan-sound : (n depth : ℕ) (b rest : List ℕ) → scan n depth b ≡ Some rest → Nest depth b rest
unfolding scan
scan-sound zero depth b rest e = absurd (none-is _ e)
scan-sound (suc n) depth b rest e =
    follow-sound n depth b rest (step depth b) refl (λ k s g. scan-sound n k s rest g) e

-- what is found is the end
pub end-sound : (b rest : List ℕ) → end_of 0 b ≡ Some rest
    → (c : List ℕ) × Values Ber c × (b ≡ c ++ 0 ∷ 0 ∷ rest)
unfolding end_of
end-sound b rest e = scan-sound (suc (length b)) 0 b rest e

pub end_room : (b rest : List ℕ) → end_of 0 b ≡ Some rest → length rest + 2 ≤ length b
end_room b rest e =
    let f = end-sound b rest e in
    let l : length b ≡ length (f.0 ++ 0 ∷ 0 ∷ rest) = ap length f.2 in
    omega (arith, l, length-append f.0 (0 ∷ 0 ∷ rest))

-- ---- and the end is found

-- each step takes an octet at least
pub step-shorter : (depth k : ℕ) (b s : List ℕ) → Shows depth b (Some k) s → length s < length b
step-shorter depth k b s (inl h) = let l : length b ≡ length (0 ∷ 0 ∷ s) = ap length h.1 in
    omega (arith, l)
step-shorter depth k b s (inr (inl h)) = let l : length b ≡ length (h.1 ∷ 128 ∷ s) = ap length h.4
    in omega (arith, l)
step-shorter depth k b s (inr (inr h)) = let l : length b ≡ length (h.1 ++ s) = ap length h.5 in
    omega (arith, l, length-append h.1 s, value-some Ber h.1 h.2 h.3 h.4)

-- and opens one value at most
room : (depth k : ℕ) (b s : List ℕ) → Shows depth b (Some k) s
    → (k + length s < depth + length b) × (length s < length b)
room depth k b s (inl h) = let l : length b ≡ length (0 ∷ 0 ∷ s) = ap length h.1 in
    (omega (arith, l, h.0), omega (arith, l))
room depth k b s (inr (inl h)) = let l : length b ≡ length (h.1 ∷ 128 ∷ s) = ap length h.4 in
    (omega (arith, l, h.0), omega (arith, l))
room depth k b s (inr (inr h)) = let l : length b ≡ length (h.1 ++ s) = ap length h.5 in (
  omega (arith, l, h.0, length-append h.1 s, value-some Ber h.1 h.2 h.3 h.4),
  omega (arith, l, length-append h.1 s, value-some Ber h.1 h.2 h.3 h.4),
)

pub step-room : (depth k : ℕ) (b s : List ℕ) → step depth b ≡ Some (Some k, s)
    → (k + length s < depth + length b) × (length s < length b)
step-room depth k b s e = room depth k b s (step-sound depth b (Some k) s e)

same-follow : (f g : ℕ → List ℕ → Option (List ℕ)) (o : Option (Option ℕ × List ℕ))
    → ((k : ℕ) (s : List ℕ) → o ≡ Some (Some k, s) → f k s ≡ g k s) → follow f o ≡ follow g o
same-follow f g None h = refl
same-follow f g (Some (None, r)) h = refl
same-follow f g (Some (Some k, s)) h = h k s refl

scan-enough : (n m depth : ℕ) (b : List ℕ) → length b < n → length b < m
    → scan n depth b ≡ scan m depth b
unfolding scan
scan-enough zero m depth b hn hm = absurd (omega arith)
scan-enough (suc n) zero depth b hn hm = absurd (omega arith)
scan-enough (suc n) (suc m) depth b hn hm =
    same-follow (scan n) (scan m) (step depth b)
    (λ k s e. let lt = step-shorter depth k b s (step-sound depth b (Some k) s e) in
    scan-enough n m k s (omega arith) (omega arith))

pub end-step : (k j : ℕ) (b s : List ℕ) → step k b ≡ Some (Some j, s) → end_of k b ≡ end_of j s
unfolding end_of scan
end-step k j b s e =
    let lt = step-shorter k j b s (step-sound k b (Some j) s e) in
    rw e (scan-enough (length b) (suc (length s)) j s lt (omega arith))

pub end-done : (k : ℕ) (b s : List ℕ) → step k b ≡ Some (None, s) → end_of k b ≡ Some s
unfolding end_of scan
end-done k b s e = rw e refl

pub end-none : (k : ℕ) (b : List ℕ) → step k b ≡ None → end_of k b ≡ None
unfolding end_of scan
end-none k b e = rw e refl

step-at : (k t a : ℕ) (b c s : List ℕ) → IsTag t → a ≢ 128 → contents_at Ber (a ∷ b) ≡ Some (c, s)
    → step k (t ∷ a ∷ b) ≡ Some (Some k, s)
unfolding step value_step
step-at k t a b c s tag na e =
    let x : nat_eq t 0 ≡ false = ne_eqb _ _ tag.0 in
    let z : nat_eq (t % 32) 31 ≡ false = ne_eqb _ _ tag.1 in
    let y : nat_eq a 128 ≡ false = ne_eqb _ _ na in
    rw (x, z, y, e) refl

step-open : (k t : ℕ) (b : List ℕ) → IsTag t → is_constructed t ≡ true
    → step k (t ∷ 128 ∷ b) ≡ Some (Some (suc k), b)
unfolding step value_step
step-open k t b tag cons =
    let x : nat_eq t 0 ≡ false = ne_eqb _ _ tag.0 in
    let z : nat_eq (t % 32) 31 ≡ false = ne_eqb _ _ tag.1 in
    rw (x, z, cons) refl

step-definite : (mode : Mode) (k t : ℕ) (l c s : List ℕ) → IsTag t → IsLength mode l (length c)
    → step k (t ∷ (l ++ (c ++ s))) ≡ Some (Some k, s)
step-definite mode k t l c s tag h =
    let f = length-first mode l (length c) h in
    let e : contents_at Ber ((f.0 ∷ f.1) ++ (c ++ s)) ≡ Some (c, s) =
    subst (λ (x : List ℕ). contents_at Ber (x ++ (c ++ s)) ≡ Some (c, s)) f.2
    (contents-complete Ber l c s (length-any mode l (length c) h)) in
    subst (λ (x : List ℕ). step k (t ∷ (x ++ (c ++ s))) ≡ Some (Some k, s)) (sym f.2)
    (step-at k t f.0 (f.1 ++ (c ++ s)) c s tag f.3 e)

step-end : (k : ℕ) (s : List ℕ) → step k (0 ∷ 0 ∷ s) ≡ Some (outer k, s)
unfolding step
step-end k s = refl

mutual
  -- the scan passes over a value
  one-passes : (mode : Mode) (v : List ℕ) (t : ℕ) (c : List ℕ) → Value mode v t c
      → (k : ℕ) (s : List ℕ) → end_of k (v ++ s) ≡ end_of k s
  one-passes mode v t c (definite _ _ _ l _ tag is e) k s =
      let moved : v ++ s ≡ t ∷ (l ++ (c ++ s)) = ap (λ (x : List ℕ). x ++ s) e
      ∙ ap (λ (x : List ℕ). t ∷ x) (append_assoc l c s) in
      ap (end_of k) moved ∙ end-step k k (t ∷ (l ++ (c ++ s))) s
      (step-definite mode k t l c s tag is)
  one-passes mode v t c (indefinite _ _ _ _ m tag cons vs e) k s =
      let moved : v ++ s ≡ t ∷ 128 ∷ (c ++ 0 ∷ 0 ∷ s) = ap (λ (x : List ℕ). x ++ s) e
      ∙ ap (λ (x : List ℕ). t ∷ 128 ∷ x) (append_assoc c (0 ∷ 0 ∷ []) s) in
      ap (end_of k) moved ∙ end-step k (suc k) (t ∷ 128 ∷ (c ++ 0 ∷ 0 ∷ s)) (c ++ 0 ∷ 0 ∷ s)
      (step-open k t (c ++ 0 ∷ 0 ∷ s) tag cons)
      ∙ many-passes mode c vs (suc k) (0 ∷ 0 ∷ s)
      ∙ end-step (suc k) k (0 ∷ 0 ∷ s) s (step-end (suc k) s)

  -- and over values
  many-passes : (mode : Mode) (c : List ℕ) → Values mode c → (k : ℕ) (s : List ℕ)
      → end_of k (c ++ s) ≡ end_of k s
  many-passes mode c (none _ _ e) k s = ap (λ (x : List ℕ). end_of k (x ++ s)) e
  many-passes mode c (more _ _ a b t d e one many) k s =
      ap (λ (x : List ℕ). end_of k (x ++ s)) e ∙ ap (end_of k) (append_assoc a b s)
      ∙ one-passes mode a t d one k (b ++ s) ∙ many-passes mode b many k s

-- the end is found
pub end-complete : (mode : Mode) (c rest : List ℕ) → Values mode c
    → end_of 0 (c ++ 0 ∷ 0 ∷ rest) ≡ Some rest
end-complete mode c rest h = many-passes mode c h 0 (0 ∷ 0 ∷ rest)
    ∙ end-done 0 (0 ∷ 0 ∷ rest) rest (step-end 0 rest)

before-is : (c rest : List ℕ) → before_end (c ++ 0 ∷ 0 ∷ rest) rest ≡ c
before-is c rest =
    let n : length (c ++ 0 ∷ 0 ∷ rest) - length rest - 2 ≡ length c =
    omega (arith, length-append c (0 ∷ 0 ∷ rest)) in
    rw n (take_at c (0 ∷ 0 ∷ rest) (length c) refl)

-- ---- values

abbrev pub IsFront : Mode → ℕ → List ℕ → List ℕ → List ℕ → Type 0
IsFront mode t b c r = (v : List ℕ) × (t ∷ b ≡ v ++ r) × Value mode v t c

indefinite-sound : (mode : Mode) (t : ℕ) (b c r : List ℕ) → IsTag t
    → indefinite_at t mode b ≡ Some (c, r) → IsFront mode t (128 ∷ b) c r
unfolding indefinite_at
indefinite-sound Der t b c r tag e = absurd (none-is _ e)
indefinite-sound Ber t b c r tag e =
    elim (chosen (is_constructed t) _ _ _ e) [
      | inl h ↦
          let s = bind_some (end_of 0 b) _ (c, r) h.1 in
          let q : (let x : List ℕ × List ℕ = (before_end b s.0, s.0) in
          x) ≡ (c, r) = some_is _ _ s.2 in
          let r-is : s.0 ≡ r = ap (λ (x : List ℕ × List ℕ). x.1) q in
          let f = end-sound b s.0 s.1 in
          let c-is : f.0 ≡ c = sym (before-is f.0 s.0)
          ∙ ap (λ (x : List ℕ). before_end x s.0) (sym f.2)
          ∙ ap (λ (x : List ℕ × List ℕ). x.0) q in
          let vs : Values Ber c = subst (λ (x : List ℕ). Values Ber x) c-is f.1 in
          let b-is : b ≡ c ++ 0 ∷ 0 ∷ r = f.2 ∙ rw (c-is, r-is) refl in (
            t ∷ 128 ∷ (c ++ 0 ∷ 0 ∷ []),
            ap (λ (x : List ℕ). t ∷ 128 ∷ x) (b-is ∙ sym (append_assoc c (0 ∷ 0 ∷ []) r)),
            indefinite Ber (t ∷ 128 ∷ (c ++ 0 ∷ 0 ∷ [])) t c refl tag h.0 vs refl,
          )
      | inr h ↦ absurd (none-is _ h.1)
    ]

pub body-sound : (t : ℕ) (mode : Mode) (b c r : List ℕ) → body_at t mode b ≡ Some (c, r)
    → IsFront mode t b c r
unfolding body_at
body-sound t mode [] c r e = absurd (none-is _ e)
body-sound t mode (l ∷ b) c r e =
    elim (chosen (is_tag t) _ _ _ e) [
      | inl h ↦ let tag = tag-sound t h.0 in elim (chosen (nat_eq l 128) _ _ _ h.1) [
        | inl g ↦ let l-is : l ≡ 128 = eqb-true _ _ g.0 in
            subst (λ (x : ℕ). IsFront mode t (x ∷ b) c r) (sym l-is)
            (indefinite-sound mode t b c r tag g.1)
        | inr g ↦ definite-front mode t (l ∷ b) c r tag g.1
      ]
      | inr h ↦ absurd (none-is _ h.1)
    ]

body-at : (t : ℕ) (mode : Mode) (a : ℕ) (b c r : List ℕ) → IsTag t → a ≢ 128
    → contents_at mode (a ∷ b) ≡ Some (c, r) → body_at t mode (a ∷ b) ≡ Some (c, r)
unfolding body_at
body-at t mode a b c r tag na e =
    let x : nat_eq t 0 ≡ false = ne_eqb _ _ tag.0 in
    let z : nat_eq (t % 32) 31 ≡ false = ne_eqb _ _ tag.1 in
    let y : nat_eq a 128 ≡ false = ne_eqb _ _ na in
    rw (x, z, y, e) refl

body-open : (t : ℕ) (mode : Mode) (c r : List ℕ) → mode ≡ Ber → IsTag t → is_constructed t ≡ true
    → Values mode c → body_at t mode (128 ∷ (c ++ 0 ∷ 0 ∷ r)) ≡ Some (c, r)
unfolding body_at indefinite_at
body-open t Der c r m tag cons vs = absurd cc
body-open t Ber c r m tag cons vs =
    let x : nat_eq t 0 ≡ false = ne_eqb _ _ tag.0 in
    let z : nat_eq (t % 32) 31 ≡ false = ne_eqb _ _ tag.1 in
    rw (x, z, cons, end-complete Ber c r vs)
    (ap (λ (y : List ℕ). (let o : Option (List ℕ × List ℕ) = Some (y, r) in o)) (before-is c r))

-- what stands after the identifier of a value is read
pub body-complete : (t : ℕ) (mode : Mode) (o c r : List ℕ) → Value mode o t c
    → (b : List ℕ) × (o ++ r ≡ t ∷ b) × (body_at t mode b ≡ Some (c, r))
body-complete t mode o c r (definite _ _ _ l _ tag is e) =
    let f = length-first mode l (length c) is in
    let h : contents_at mode ((f.0 ∷ f.1) ++ (c ++ r)) ≡ Some (c, r) =
    subst (λ (x : List ℕ). contents_at mode (x ++ (c ++ r)) ≡ Some (c, r)) f.2
    (contents-complete mode l c r is) in
    let moved : o ++ r ≡ t ∷ (l ++ (c ++ r)) = ap (λ (x : List ℕ). x ++ r) e
    ∙ ap (λ (x : List ℕ). t ∷ x) (append_assoc l c r) in (
      l ++ (c ++ r),
      moved,
      subst (λ (x : List ℕ). body_at t mode (x ++ (c ++ r)) ≡ Some (c, r)) (sym f.2)
          (body-at t mode f.0 (f.1 ++ (c ++ r)) c r tag f.3 h),
    )
body-complete t mode o c r (indefinite _ _ _ _ m tag cons vs e) = (
  128 ∷ (c ++ 0 ∷ 0 ∷ r),
  ap (λ (x : List ℕ). x ++ r) e
      ∙ ap (λ (x : List ℕ). t ∷ 128 ∷ x) (append_assoc c (0 ∷ 0 ∷ []) r),
  body-open t mode c r m tag cons vs,
)
