-- Reading as many as there are.
use Rattle.std.proofs.Common.{◌≡◌, ℕ, zero, suc, ◌<◌, Bool, true, false, cond, List, [], ◌∷◌, ◌++◌}
use Rattle.std.proofs.Common.{length, Option, Some, None, refl, sym, ap, subst, ◌∙◌, append_assoc}
use Rattle.std.proofs.Common.{arith}
use Rattle.std.proofs.lemmas.List.{length-append, append-nil}
use Rattle.rpki_der.specs.declared.mode.Mode.{Mode}
use Rattle.rpki_der.specs.Read.Parse.{Parser, ◌>>=◌, with_front, go_on, up_to, many, value_at}
use Rattle.rpki_der.specs.Read.Parse.{optional, primitive, in_value, whole, some_of, is_next}
use Rattle.rpki_der.proofs.Reading.Scan.{value-some}
use Rattle.rpki_der.proofs.Reading.Lengths.{bind_some, some_is}
use Rattle.rpki_der.proofs.Reading.Exact.{value-sound}

-- each that is read has an octet at least
pub record Shortens {X : Type 0} (p : List ℕ → Option (Option X × List ℕ)) : Type 0 where
  pub at : (b : List ℕ) (x : X) (r : List ℕ) → p b ≡ Some (Some x, r) → length r < length b

same-step : {X : Type 0} (f g : List ℕ → Option (List X × List ℕ)) (o : Option (Option X × List ℕ))
    → ((x : X) (r : List ℕ) → o ≡ Some (Some x, r) → f r ≡ g r)
    → (o >>= λ u. go_on u.0 u.1 (f u.1)) ≡ (o >>= λ u. go_on u.0 u.1 (g u.1))
same-step f g None h = refl
same-step f g (Some (None, r)) h = refl
same-step f g (Some (Some x, r)) h = ap (with_front (x ∷ [])) (h x r refl)

-- how many may come doesn't matter where there are enough
up_to-enough : {X : Type 0} (p : Parser (Option X)) (mode : Mode) → Shortens (p mode)
    → (n m : ℕ) (b : List ℕ) → length b < n → length b < m → up_to n p mode b ≡ up_to m p mode b
unfolding up_to
up_to-enough p mode s zero m b hn hm = absurd (omega arith)
up_to-enough p mode s (suc n) zero b hn hm = absurd (omega arith)
up_to-enough p mode s (suc n) (suc m) b hn hm =
    same-step (up_to n p mode) (up_to m p mode) (p mode b) (λ x r e. let lt = s.at b x r e in
    up_to-enough p mode s n m r (omega arith) (omega arith))

pub many-none : {X : Type 0} (p : Parser (Option X)) (mode : Mode) (b : List ℕ) → p mode b ≡ None
    → many p mode b ≡ None
unfolding many up_to
many-none p mode b e = rw e refl

pub many-end : {X : Type 0} (p : Parser (Option X)) (mode : Mode) (b r : List ℕ)
    → p mode b ≡ Some (None, r) → many p mode b ≡ Some ([], r)
unfolding many up_to
many-end p mode b r e = rw e refl

pub many-more : {X : Type 0} (p : Parser (Option X)) (mode : Mode) → Shortens (p mode)
    → (b : List ℕ) (x : X) (r : List ℕ) → p mode b ≡ Some (Some x, r)
    → many p mode b ≡ with_front (x ∷ []) (many p mode r)
unfolding many up_to
many-more p mode s b x r e =
    let lt = s.at b x r e in
    rw e (ap (with_front (x ∷ []))
    (up_to-enough p mode s (length b) (suc (length r)) r lt (omega arith)))

pub with_front-twice : {X : Type 0} (a b : List X) (o : Option (List X × List ℕ))
    → with_front a (with_front b o) ≡ with_front (a ++ b) o
with_front-twice a b None = refl
with_front-twice a b (Some (xs, r)) = ap (λ (ys : _). Some (ys, r)) (sym (append_assoc a b xs))

-- one iteration of a loop that reads as many as there are
pub goes_on : {X : Type 0} (p : Parser (Option X)) (mode : Mode) → Shortens (p mode)
    → (front : List X) (b : List ℕ) (x : X) (r : List ℕ) (all : Option (List X × List ℕ))
    → p mode b ≡ Some (Some x, r) → with_front front (many p mode b) ≡ all
    → with_front (front ++ x ∷ []) (many p mode r) ≡ all
goes_on p mode s front b x r all e inv =
    sym (with_front-twice front (x ∷ []) (many p mode r))
    ∙ ap (with_front front) (sym (many-more p mode s b x r e)) ∙ inv

-- its end
pub ends : {X : Type 0} (p : Parser (Option X)) (mode : Mode) (front : List X) (b r : List ℕ)
    (all : Option (List X × List ℕ)) → p mode b ≡ Some (None, r)
    → with_front front (many p mode b) ≡ all → all ≡ Some (front, r)
ends {X} p mode front b r all e inv = sym inv
    ∙ rw (many-end p mode b r e) (ap (λ (ys : List X). Some (ys, r)) (append-nil front))

-- its error
pub fails : {X : Type 0} (p : Parser (Option X)) (mode : Mode) (front : List X) (b : List ℕ)
    (all : Option (List X × List ℕ)) → p mode b ≡ None → with_front front (many p mode b) ≡ all
    → all ≡ None
fails p mode front b all e inv = sym inv ∙ rw (many-none p mode b e) refl

-- a value takes an octet at least
pub value-shorter : (tag : ℕ) (mode : Mode) (b c r : List ℕ) → value_at tag mode b ≡ Some (c, r)
    → length r < length b
value-shorter tag mode b c r e =
    let f = value-sound tag mode b c r e in
    let len : length b ≡ length (f.0 ++ r) = ap length f.1 in
    omega (arith, len, length-append f.0 r, value-some mode f.0 tag c f.2)

pub primitive-shorter : {X : Type 0} (tag : ℕ) (f : List ℕ → Option X) (mode : Mode) (b : List ℕ)
    (x : X) (r : List ℕ) → primitive tag f mode b ≡ Some (x, r) → length r < length b
primitive-shorter {X} tag f mode b x r e =
    let v = bind_some (value_at tag mode b) _ (x, r) e in
    let w = bind_some (f v.0.0) _ (x, r) v.2 in
    let q : (let t : X × List ℕ = (w.0, v.0.1) in t) ≡ (x, r) = some_is _ _ w.2 in
    let lt : length v.0.1 < length b = value-shorter tag mode b v.0.0 v.0.1 v.1 in
    subst (λ (t : X × List ℕ). length t.1 < length b) q lt

some_of-is : {X : Type 0} (o : Option (X × List ℕ)) (x : X) (r : List ℕ)
    → some_of o ≡ Some (Some x, r) → o ≡ Some (x, r)
some_of-is None x r e = absurd cc
some_of-is {X} (Some (y, s)) x r e =
    let q : (let t : Option X × List ℕ = (Some y, s) in t) ≡ (Some x, r) = some_is _ _ e in
    let a : y ≡ x = some_is _ _ (ap (λ (t : Option X × List ℕ). t.0) q) in
    let b : s ≡ r = ap (λ (t : Option X × List ℕ). t.1) q in
    rw (a, b) refl

optional-cases : {X : Type 0} (t : Bool) (o : Option (X × List ℕ)) (b : List ℕ) (x : X) (r : List ℕ)
    → cond t (some_of o) (Some (None, b)) ≡ Some (Some x, r) → o ≡ Some (x, r)
optional-cases true o b x r e = some_of-is o x r e
optional-cases {X} false o b x r e =
    let q : (let t : Option X × List ℕ = (None, b) in t) ≡ (Some x, r) = some_is _ _ e in
    absurd (let no : (let t : Option X = None in t) ≡ Some x = ap (λ (t : Option X × List ℕ). t.0) q
    in cc)

pub optional-some : {X : Type 0} (tag : ℕ) (p : Parser X) (mode : Mode) (b : List ℕ) (x : X)
    (r : List ℕ) → optional tag p mode b ≡ Some (Some x, r) → p mode b ≡ Some (x, r)
optional-some tag p mode b x r e = optional-cases (is_next tag b) (p mode b) b x r e

pub shortens-tagged : {X : Type 0} (tag : ℕ) (p : Parser X)
    → ((mode : Mode) (b : List ℕ) (x : X) (r : List ℕ) → p mode b ≡ Some (x, r)
    → length r < length b)
    → (mode : Mode) → Shortens (optional tag p mode)
shortens-tagged tag p short mode = record {
  at = λ b x r e. short mode b x r (optional-some tag p mode b x r e);
}

pub Shortens-optional : {X : Type 0} (tag : ℕ) (f : List ℕ → Option X) (mode : Mode)
    → Shortens (optional tag (primitive tag f) mode)
Shortens-optional tag f mode =
    record {
      at = λ b x r e. primitive-shorter tag f mode b x r
          (optional-some tag (primitive tag f) mode b x r e);
    }

pub in_value-shorter : {X : Type 0} (tag : ℕ) (p : Parser X) (mode : Mode) (b : List ℕ) (x : X)
    (r : List ℕ)
    → in_value tag p mode b ≡ Some (x, r) → length r < length b
in_value-shorter {X} tag p mode b x r h =
    let v = bind_some (value_at tag mode b) _ (x, r) h in
    let w = bind_some (whole (p mode v.0.0)) _ (x, r) v.2 in
    let q : (let t : X × List ℕ = (w.0, v.0.1) in t) ≡ (x, r) = some_is _ _ w.2 in
    subst (λ (t : X × List ℕ). length t.1 < length b) q (value-shorter tag mode b v.0.0 v.0.1 v.1)
