-- Where the parts of a value lie.
use Rattle.std.proofs.Common.{◌≡◌, ℕ, Bool, true, false, ◌+◌, ◌-◌, ◌≤◌, List, [], ◌∷◌, ◌++◌, length}
use Rattle.std.proofs.Common.{get_or, take, Some, slice_range, refl, sym, ap, subst, ◌∙◌, arith}
use Rattle.std.proofs.Common.{append_assoc}
use Rattle.std.specs.Prelude.{nat_eq}
use Rattle.std.proofs.lemmas.Bool.{eqb-true, eqb-false}
use Rattle.std.proofs.lemmas.List.{take_at, drop_at, length-append}
use Rattle.rpki_der.specs.declared.mode.Mode.{Mode}
use Rattle.rpki_der.specs.Grammar.{Value, definite, indefinite}
use Rattle.rpki_der.specs.Read.Parse.{value_at}
use Rattle.rpki_der.proofs.Reading.Lengths.{length-first}
use Rattle.rpki_der.proofs.Reading.Exact.{value-sound}

-- where octets close the contents
pub record Places (bytes contents after : List ℕ) (closing : ℕ) : Type 0 where
  pub some : 2 ≤ length bytes
  pub room : length contents + closing + length after ≤ length bytes
  pub inner : slice_range bytes (length bytes - length after - closing - length contents)
      (length bytes - length after - closing) ≡ contents
  pub outer : slice_range bytes (length bytes - length after) (length bytes) ≡ after

take_whole : (l : List ℕ) → take (length l) l ≡ l
take_whole [] = refl
take_whole (x ∷ l) = ap (λ (t : List ℕ). x ∷ t) (take_whole l)

cut : (t a : ℕ) (header contents closing after : List ℕ)
    → Places (t ∷ a ∷ (header ++ (contents ++ (closing ++ after)))) contents after (length closing)
cut t a header contents closing after =
    let h = length header + 2 in
    let bytes : List ℕ = (t ∷ a ∷ header) ++ (contents ++ (closing ++ after)) in
    let len : length ((t ∷ a ∷ header) ++ (contents ++ (closing ++ after)))
    ≡ h + length contents + length closing + length after =
    omega (
      arith,
      length-append (t ∷ a ∷ header) (contents ++ (closing ++ after)),
      length-append contents (closing ++ after),
      length-append closing after,
    ) in
    let start : length ((t ∷ a ∷ header) ++ (contents ++ (closing ++ after)))
    - length after - length closing - length contents ≡ h = omega (arith, len) in
    let end : length ((t ∷ a ∷ header) ++ (contents ++ (closing ++ after)))
    - length after - length closing ≡ h + length contents = omega (arith, len) in
    let next : length ((t ∷ a ∷ header) ++ (contents ++ (closing ++ after))) - length after
    ≡ h + length contents + length closing = omega (arith, len) in
    let k : h + length contents - h ≡ length contents = omega arith in
    let j : h + length contents + length closing + length after -
    (h + length contents + length closing) ≡ length after = omega arith in
    let front : (t ∷ a ∷ header)
    ++ (contents ++ (closing ++ after)) ≡ (((t ∷ a ∷ header) ++ contents) ++ closing) ++ after =
    sym (append_assoc (t ∷ a ∷ header) contents (closing ++ after))
    ∙ sym (append_assoc ((t ∷ a ∷ header) ++ contents) closing after) in
    let fl : h + length contents + length closing
    ≡ length (((t ∷ a ∷ header) ++ contents) ++ closing) =
    omega (
      arith,
      length-append ((t ∷ a ∷ header) ++ contents) closing,
      length-append (t ∷ a ∷ header) contents,
    ) in
    let hl : h ≡ length (t ∷ a ∷ header) = omega arith in
    let inner : slice_range ((t ∷ a ∷ header) ++ (contents ++ (closing ++ after))) h
    (h + length contents) ≡ contents =
    rw (k, drop_at (t ∷ a ∷ header) (contents ++ (closing ++ after)) h (sym hl))
    (take_at contents (closing ++ after) (length contents) refl) in
    let outer : slice_range ((t ∷ a ∷ header) ++ (contents ++ (closing ++ after)))
    (h + length contents + length closing) (h + length contents + length closing + length after)
    ≡ after =
    subst (λ (b : List ℕ). slice_range b (h + length contents + length closing)
    (h + length contents + length closing + length after) ≡ after) (sym front)
    (rw (
      j,
      drop_at (((t ∷ a ∷ header) ++ contents) ++ closing) after
          (h + length contents + length closing) (sym fl),
    ) (take_whole after)) in
    record {
      some = omega (arith, len);
      room = omega (arith, len);
      inner = subst (λ (i : ℕ). slice_range bytes i (length bytes - length after - length closing)
          ≡ contents) (sym start)
          (subst (λ (i : ℕ). slice_range bytes h i ≡ contents) (sym end) inner);
      outer = subst (λ (i : ℕ). slice_range bytes i (length bytes) ≡ after) (sym next)
          (subst (λ (i : ℕ). slice_range bytes (h + length contents + length closing) i ≡ after)
          (sym len) outer);
    }

-- how many octets close a value whose second octet is this
abbrev pub Closed : List ℕ → List ℕ → List ℕ → ℕ → Type 0
Closed bytes contents after second = (second ≡ 128 → Places bytes contents after 2)
    × ((second ≡ 128 → ⊥) → Places bytes contents after 0)

closed : (mode : Mode) (o : List ℕ) (t : ℕ) (c r : List ℕ) → Value mode o t c
    → Closed (o ++ r) c r (get_or (o ++ r) 1 0)
closed mode o t c r (definite _ _ _ l _ tag is e) =
    let f = length-first mode l (length c) is in
    let parts : o ++ r ≡ t ∷ f.0 ∷ (f.1 ++ (c ++ ([] ++ r))) = ap (λ (x : List ℕ). x ++ r) e
    ∙ ap (λ (x : List ℕ). t ∷ x) (append_assoc l c r)
    ∙ ap (λ (x : List ℕ). t ∷ (x ++ (c ++ r))) f.2 in
    let at : Closed (t ∷ f.0 ∷ (f.1 ++ (c ++ ([] ++ r)))) c r f.0 =
    ((λ h. absurd (f.3 h)), (λ h. cut t f.0 f.1 c [] r)) in
    subst (λ (b : List ℕ). Closed b c r (get_or b 1 0)) (sym parts) at
closed mode o t c r (indefinite _ _ _ _ m tag cons vs e) =
    let parts : o ++ r ≡ t ∷ 128 ∷ ([] ++ (c ++ ((0 ∷ 0 ∷ []) ++ r))) =
    ap (λ (x : List ℕ). x ++ r) e
    ∙ ap (λ (x : List ℕ). t ∷ 128 ∷ x) (append_assoc c (0 ∷ 0 ∷ []) r) in
    let at : Closed (t ∷ 128 ∷ ([] ++ (c ++ ((0 ∷ 0 ∷ []) ++ r)))) c r 128 =
    ((λ h. cut t 128 [] c (0 ∷ 0 ∷ []) r), (λ h. absurd (h refl))) in
    subst (λ (b : List ℕ). Closed b c r (get_or b 1 0)) (sym parts) at

pub places : (tag : ℕ) (mode : Mode) (bytes contents after : List ℕ)
    → value_at tag mode bytes ≡ Some (contents, after)
    → Closed bytes contents after (get_or bytes 1 0)
places tag mode bytes contents after e =
    let f = value-sound tag mode bytes contents after e in
    subst (λ (b : List ℕ). Closed b contents after (get_or b 1 0)) (sym f.1)
    (closed mode f.0 tag contents after f.2)

at-least : (b c r : List ℕ) (second : ℕ) (t : Bool) → nat_eq second 128 ≡ t → Closed b c r second
    → (2 ≤ length b) × (length r ≤ length b)
at-least b c r second true e h = let p = h.0 (eqb-true _ _ e) in (p.some, omega (arith, p.room))
at-least b c r second false e h = let p = h.1 (eqb-false _ _ e) in (p.some, omega (arith, p.room))

pub some-places : (tag : ℕ) (mode : Mode) (b c r : List ℕ) → value_at tag mode b ≡ Some (c, r)
    → (2 ≤ length b) × (length r ≤ length b)
some-places tag mode b c r e =
    at-least b c r (get_or b 1 0) (nat_eq (get_or b 1 0) 128) refl (places tag mode b c r e)

-- what follows a front
pub after-front : (b front r : List ℕ) → b ≡ front ++ r
    → (length r ≤ length b) × (slice_range b (length b - length r) (length b) ≡ r)
after-front b front r e =
    let len : length (front ++ r) ≡ length front + length r =
    omega (arith, length-append front r) in
    let k : length front + length r - length r ≡ length front = omega arith in
    let j : length front + length r - length front ≡ length r = omega arith in
    let at : slice_range (front ++ r) (length front) (length front + length r) ≡ r =
    rw (j, drop_at front r (length front) refl) (take_whole r) in
    let at2 : slice_range (front ++ r) (length (front ++ r) - length r) (length (front ++ r)) ≡ r =
    subst (λ (n : ℕ). slice_range (front ++ r) (n - length r) n ≡ r) (sym len)
    (subst (λ (n : ℕ). slice_range (front ++ r) n (length front + length r) ≡ r) (sym k) at)
    in (
      let l : length b ≡ length (front ++ r) = ap length e in
          omega (arith, l, len),
      subst (λ (x : List ℕ). slice_range x (length x - length r) (length x) ≡ r) (sym e) at2,
    )
