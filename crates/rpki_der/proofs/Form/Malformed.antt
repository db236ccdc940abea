-- What may be absent is refused where it is malformed: it is not read as absent.
use Rattle.std.proofs.Common.{◌≡◌, ◌<◌, ℕ, zero, suc, false, List, [], Option, Some, None, refl}
use Rattle.std.proofs.Common.{ap, subst, ◌++◌, length, arith}
use Rattle.std.proofs.lemmas.List.{length-append}
use Rattle.rpki_der.specs.declared.mode.Mode.{Mode}
use Rattle.rpki_der.specs.Read.Parse.{Parser, is_next, optional, go_on, up_to, many}
use Rattle.rpki_der.specs.Grammar.{IsBytes}
use Rattle.rpki_der.specs.Form.Law.{nothing, is, IsPart, RefusesMalformed}
use Rattle.rpki_der.specs.Form.Made.{default_at}
use Rattle.rpki_der.specs.Form.Parts.{items_at}
use Rattle.rpki_der.proofs.Reading.Lengths.{bind_some, some_is}
use Rattle.rpki_der.proofs.Reading.Exact.{IsBytes-right}
use Rattle.rpki_der.proofs.Reading.Lists.{front-some}
use Rattle.rpki_der.proofs.Reading.Many.{optional-some}
use Rattle.rpki_der.proofs.Form.Words.{optional-none, starts-long}

module _ {X : Type 0} {p : Parser X} {G : Mode → List ℕ → X → Type 0} (tag : ℕ)
    (e : IsPart (is tag) nothing p G) where
  -- what may be there
  pub option-refused : RefusesMalformed tag G (optional tag p)
  option-refused mode b bytes next none = of (p mode b) refl
    where
      of : (f : Option (X × List ℕ)) → p mode b ≡ f → optional tag p mode b ≡ None
      of None q = rw (next, q) refl
      of (Some u) q = absurd (none u.0 u.1 ((e.exact mode).sound b u.0 u.1 bytes q))

  -- what may be there, and else the default
  pub default-refused : (d : X) → RefusesMalformed tag G (default_at d tag p)
  default-refused d mode b bytes next none = rw (option-refused mode b bytes next none) refl

  ends-step : (mode : Mode) (n : ℕ) (b : List ℕ) (xs : List X) (r : List ℕ)
      (o : Option X × List ℕ) → optional tag p mode b ≡ Some o → length b < suc n → IsBytes b
      → ((s : List ℕ) (ys : List X) → length s < n → IsBytes s
      → up_to n (optional tag p) mode s ≡ Some (ys, r) → is_next tag r ≡ false)
      → go_on o.0 o.1 (up_to n (optional tag p) mode o.1) ≡ Some (xs, r) → is_next tag r ≡ false
  ends-step mode n b xs r (None, s) h lt bytes ih g =
      let q : (let t : List X × List ℕ = ([], s) in t) ≡ (xs, r) = some_is _ _ g in
      let k = optional-none tag p mode b s h in
      subst (λ (t : List ℕ). is_next tag t ≡ false) (ap (λ (t : List X × List ℕ). t.1) q)
      (subst (λ (t : List ℕ). is_next tag t ≡ false) k.1 k.0)
  ends-step mode n b xs r (Some x, s) h lt bytes ih g =
      let f = front-some x (up_to n (optional tag p) mode s) xs r g in
      let first = (e.exact mode).sound b x s bytes (optional-some tag p mode b x s h) in
      let after : IsBytes s = IsBytes-right first.0 s (subst IsBytes first.1 bytes) in
      let long = starts-long (is tag) first.0 (e.starts mode first.0 x first.2) in
      let len : length b ≡ length (first.0 ++ s) = ap length first.1 in
      ih s f.0 (omega (arith, lt, long, len, length-append first.0 s)) after f.1

  ends-up_to : (mode : Mode) (n : ℕ) (b : List ℕ) (xs : List X) (r : List ℕ) → length b < n
      → IsBytes b → up_to n (optional tag p) mode b ≡ Some (xs, r) → is_next tag r ≡ false
  unfolding up_to
  ends-up_to mode zero b xs r lt bytes h = absurd (omega (arith, lt))
  ends-up_to mode (suc n) b xs r lt bytes h =
      let o = bind_some (optional tag p mode b) _ (xs, r) h in
      ends-step mode n b xs r o.0 o.1 lt bytes
      (λ s ys less bs g. ends-up_to mode n s ys r less bs g) o.2

  -- items end where no further one is next
  pub items-end : (mode : Mode) (b : List ℕ) (xs : List X) (r : List ℕ) → IsBytes b
      → items_at tag p mode b ≡ Some (xs, r) → is_next tag r ≡ false
  unfolding many
  items-end mode b xs r bytes h =
      ends-up_to mode (suc (length b)) b xs r (omega arith) bytes h
