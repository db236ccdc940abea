-- The text of an OBJECT IDENTIFIER.
use Rattle.std.proofs.Common.{◌≡◌, ℕ, zero, suc, ◌+◌, ◌*◌, ◌-◌, ◌%◌, ◌^◌, ◌<◌, ◌≤◌, true}
use Rattle.std.proofs.Common.{false, ltb, List, [], ◌∷◌, ◌++◌, length, Option, Some, None, refl}
use Rattle.std.proofs.Common.{sym, ap, subst, ◌∙◌, arith, inl, inr, get_or, append_assoc}
use Rattle.std.proofs.lemmas.List.{append-nil}
use Rattle.std.specs.Prelude.{decimal}
use Rattle.std.proofs.lemmas.Fmt.{decimal_digit}
use Rattle.std.specs.List.{flat_map}
use Rattle.std.proofs.lemmas.Bool.{ltb-true, ltb-false, lt-ltb, le-ltb, cases_Bool}
use Rattle.rpki_der.specs.Oid.{IsOid, subidentifiers, arcs_of, arcs, point, dotted}
use Rattle.rpki_der.specs.Text.Arcs.{is_whole, first_below, are_small, head_text}
use Rattle.rpki_der.proofs.Reading.Lengths.{chosen, some_is}

-- a subidentifier that was found
pub record IsFirst (limit n : ℕ) (octets : List ℕ) (m : ℕ) (rest : List ℕ) : Type 0 where
  pub first : subidentifiers n octets ≡ m ∷ subidentifiers 0 rest
  pub below : m < limit
  pub shorter : length rest < length octets
  pub whole : is_whole octets ≡ true → is_whole rest ≡ true

whole-rest : (a : ℕ) (rest : List ℕ) → is_whole (a ∷ rest) ≡ true → is_whole rest ≡ true
whole-rest a [] h = refl
whole-rest a (b ∷ rest) h = h

pub found : (limit n : ℕ) (o : List ℕ) (m : ℕ) (r : List ℕ) → first_below limit n o ≡ Some (m, r)
    → IsFirst limit n o m r
unfolding first_below subidentifiers
found limit n [] m r e = absurd cc
found limit n (a ∷ o) m r e =
    elim (chosen (ltb (n * 128 + a % 128) limit) _ None (Some (m, r)) e) [
      | inl h ↦ elim (chosen (ltb a 128) _ _ (Some (m, r)) h.1) [
        | inl k ↦
            let p : (let q : ℕ × List ℕ = (n * 128 + a % 128, o) in q) ≡ (m, r) = some_is _ _ k.1 in
            subst (λ (q : ℕ × List ℕ). IsFirst limit n (a ∷ o) q.0 q.1) p (record {
              first = rw k.0 refl;
              below = ltb-true _ _ h.0;
              shorter = omega arith;
              whole = whole-rest a o;
            })
        | inr k ↦
            let f = found limit (n * 128 + a % 128) o m r k.1 in
            record {
              first = rw k.0 f.first;
              below = f.below;
              shorter = let s = f.shorter in omega (arith, s);
              whole = λ w. f.whole (whole-rest a o w);
            }
      ]
      | inr h ↦ absurd (let no : (let x : Option (ℕ × List ℕ) = None in x) ≡ Some (m, r) = h.1 in
          cc)
    ]

-- the first of whole subidentifiers is at least what has been read of it
at_least : (n a : ℕ) (o : List ℕ) → is_whole (a ∷ o) ≡ true
    → (x : ℕ) × (xs : List ℕ) × (subidentifiers n (a ∷ o) ≡ x ∷ xs) × (n * 128 + a % 128 ≤ x)
unfolding subidentifiers
at_least n a [] w = (n * 128 + a % 128, subidentifiers 0 [], rw w refl, omega arith)
at_least n a (b ∷ o) w =
    elim (cases_Bool (ltb a 128)) [
      | inl t ↦ (n * 128 + a % 128, subidentifiers 0 (b ∷ o), rw t refl, omega arith)
      | inr t ↦ let h = at_least (n * 128 + a % 128) b o w in
          (h.0, h.1, rw t h.2, let k = h.3 in omega (arith, k))
    ]

next-octet : (limit n a : ℕ) (o : List ℕ) → ltb (n * 128 + a % 128) limit ≡ true → ltb a 128 ≡ false
    → first_below limit n (a ∷ o) ≡ first_below limit (n * 128 + a % 128) o
unfolding first_below
next-octet limit n a o t s = rw (t, s) refl

last-octet : (limit n a : ℕ) (o : List ℕ) → ltb (n * 128 + a % 128) limit ≡ true → ltb a 128 ≡ true
    → first_below limit n (a ∷ o) ≡ Some (n * 128 + a % 128, o)
unfolding first_below
last-octet limit n a o t s = rw (t, s) refl

further-octet : (n a : ℕ) (o : List ℕ) → ltb a 128 ≡ false
    → subidentifiers n (a ∷ o) ≡ subidentifiers (n * 128 + a % 128) o
unfolding subidentifiers
further-octet n a o s = rw s refl

-- where none below the limit is found, the first one is not
pub missed : (limit n a : ℕ) (o : List ℕ) → is_whole (a ∷ o) ≡ true
    → first_below limit n (a ∷ o) ≡ None
    → (x : ℕ) × (xs : List ℕ) × (subidentifiers n (a ∷ o) ≡ x ∷ xs) × (limit ≤ x)
unfolding first_below subidentifiers
missed limit n a [] w e =
    elim (cases_Bool (ltb (n * 128 + a % 128) limit)) [
      | inl t ↦ absurd (let no : (let x : Option (ℕ × List ℕ) = Some (n * 128 + a % 128, []) in
          x) ≡ None = rw (t, w) at e in cc)
      | inr t ↦ let h = at_least n a [] w in
          (h.0, h.1, h.2, let k = h.3 in let g = ltb-false _ _ t in omega (arith, k, g))
    ]
missed limit n a (b ∷ o) w e =
    elim (cases_Bool (ltb (n * 128 + a % 128) limit)) [
      | inl t ↦ elim (cases_Bool (ltb a 128)) [
        | inl s ↦ absurd (let no : (let x : Option (ℕ × List ℕ) = Some (n * 128 + a % 128, b ∷ o) in
            x) ≡ None = sym (last-octet limit n a (b ∷ o) t s) ∙ e in cc)
        | inr s ↦
            let h = missed limit (n * 128 + a % 128) b o w
            (sym (next-octet limit n a (b ∷ o) t s) ∙ e) in
            (h.0, h.1, further-octet n a (b ∷ o) s ∙ h.2, h.3)
      ]
      | inr t ↦ let h = at_least n a (b ∷ o) w in
          (h.0, h.1, h.2, let k = h.3 in let g = ltb-false _ _ t in omega (arith, k, g))
    ]

whole-at : (k : ℕ) (o : List ℕ) → length o ≡ suc k → get_or o k 0 < 128 → is_whole o ≡ true
whole-at k [] e h = absurd (omega (arith, e))
whole-at zero (a ∷ []) e h = lt-ltb _ _ h
whole-at zero (a ∷ b ∷ o) e h = absurd (omega (arith, e))
whole-at (suc k) (a ∷ []) e h = absurd (omega (arith, e))
whole-at (suc k) (a ∷ b ∷ o) e h = whole-at k (b ∷ o) (omega (arith, e)) h

pub whole-oid : (o : List ℕ) → IsOid o → is_whole o ≡ true
whole-oid o h = whole-at (length o - 1) o (omega (arith, h.0)) h.1

-- ---- what fits 32 bits

pub small-found : (o : List ℕ) (m : ℕ) (r : List ℕ) → first_below (2 ^ 32) 0 o ≡ Some (m, r)
    → are_small (subidentifiers 0 o) ≡ are_small (subidentifiers 0 r)
small-found o m r e = let f = found (2 ^ 32) 0 o m r e in
    let t : ltb m (2 ^ 32) ≡ true = lt-ltb _ _ f.below in rw f.first (rw t refl)

pub small-missed : (o : List ℕ) → 1 ≤ length o → is_whole o ≡ true → first_below (2 ^ 32) 0 o ≡ None
    → are_small (subidentifiers 0 o) ≡ false
small-missed [] l w e = absurd (omega (arith, l))
small-missed (a ∷ o) l w e = let f = missed (2 ^ 32) 0 a o w e in
    let t : ltb f.0 (2 ^ 32) ≡ false = le-ltb _ _ f.3 in rw f.2 (rw t refl)

pub small-end : (o : List ℕ) → length o ≡ 0 → are_small (subidentifiers 0 o) ≡ true
unfolding subidentifiers
small-end [] e = refl
small-end (a ∷ o) e = absurd (omega (arith, e))

arcs-small : (x : ℕ) (xs : List ℕ) → x < 2 ^ 32 + 80 → are_small (arcs_of (x ∷ xs)) ≡ are_small xs
arcs-small x xs h =
    elim (cases_Bool (ltb x 40)) [
      | inl a ↦ let lt = ltb-true _ _ a in
          let t : ltb x (2 ^ 32) ≡ true = lt-ltb _ _ (omega (arith, lt)) in rw (a, t) refl
      | inr a ↦ elim (cases_Bool (ltb x 80)) [
        | inl b ↦ let lt = ltb-true _ _ b in
            let t : ltb (x - 40) (2 ^ 32) ≡ true = lt-ltb _ _ (omega (arith, lt)) in
            rw (a, b, t) refl
        | inr b ↦ let ge = ltb-false _ _ b in
            let t : ltb (x - 80) (2 ^ 32) ≡ true = lt-ltb _ _ (omega (arith, ge, h)) in
            rw (a, b, t) refl
      ]
    ]

arcs-large : (x : ℕ) (xs : List ℕ) → 2 ^ 32 + 80 ≤ x → are_small (arcs_of (x ∷ xs)) ≡ false
arcs-large x xs h =
    let a : ltb x 40 ≡ false = le-ltb _ _ (omega (arith, h)) in
    let b : ltb x 80 ≡ false = le-ltb _ _ (omega (arith, h)) in
    let t : ltb (x - 80) (2 ^ 32) ≡ false = le-ltb _ _ (omega (arith, h)) in
    rw (a, b, t) refl

pub head-found : (o : List ℕ) (m : ℕ) (r : List ℕ) → first_below (2 ^ 32 + 80) 0 o ≡ Some (m, r)
    → are_small (arcs o) ≡ are_small (subidentifiers 0 r)
head-found o m r e = let f = found (2 ^ 32 + 80) 0 o m r e in
    rw f.first (arcs-small m (subidentifiers 0 r) f.below)

pub head-missed : (o : List ℕ) → IsOid o → first_below (2 ^ 32 + 80) 0 o ≡ None
    → are_small (arcs o) ≡ false
head-missed [] h e = absurd (let l = h.0 in omega (arith, l))
head-missed (a ∷ o) h e = let f = missed (2 ^ 32 + 80) 0 a o (whole-oid (a ∷ o) h) e in
    rw f.2 (arcs-large f.0 f.1 f.3)

-- ---- the text

pub points-found : (o : List ℕ) (m : ℕ) (r : List ℕ) → first_below (2 ^ 32) 0 o ≡ Some (m, r)
    → flat_map point (subidentifiers 0 o) ≡ point m ++ flat_map point (subidentifiers 0 r)
points-found o m r e = let f = found (2 ^ 32) 0 o m r e in rw f.first refl

pub points-end : (o : List ℕ) → is_whole o ≡ true → are_small (subidentifiers 0 o) ≡ true
    → first_below (2 ^ 32) 0 o ≡ None → flat_map point (subidentifiers 0 o) ≡ []
unfolding subidentifiers
points-end [] w s e = refl
points-end (a ∷ o) w s e =
    absurd (let no : true ≡ false = sym s ∙ small-missed (a ∷ o) (omega arith) w e in cc)

-- both arcs of the first subidentifier, and the others
head-dotted : (x : ℕ) (xs : List ℕ) → dotted (arcs_of (x ∷ xs)) ≡ head_text x ++ flat_map point xs
head-dotted x xs =
    let zero-text : decimal 0 ≡ 48 ∷ [] = decimal_digit 0 (omega arith) in
    let one-text : decimal 1 ≡ 49 ∷ [] = decimal_digit 1 (omega arith) in
    let two-text : decimal 2 ≡ 50 ∷ [] = decimal_digit 2 (omega arith) in
    elim (cases_Bool (ltb x 40)) [
      | inl a ↦ rw (a, zero-text) refl
      | inr a ↦ elim (cases_Bool (ltb x 80)) [
        | inl b ↦ rw (a, b, one-text) refl
        | inr b ↦ rw (a, b, two-text) refl
      ]
    ]

pub dotted-found : (o : List ℕ) (m : ℕ) (r : List ℕ) → first_below (2 ^ 32 + 80) 0 o ≡ Some (m, r)
    → dotted (arcs o) ≡ head_text m ++ flat_map point (subidentifiers 0 r)
dotted-found o m r e = let f = found (2 ^ 32 + 80) 0 o m r e in
    rw f.first (head-dotted m (subidentifiers 0 r))

-- all is written where no further arc is found
pub written-all : (written o all : List ℕ) → is_whole o ≡ true
    → are_small (subidentifiers 0 o) ≡ true → first_below (2 ^ 32) 0 o ≡ None
    → written ++ flat_map point (subidentifiers 0 o) ≡ all → written ≡ all
written-all written o all w s e h = sym (append-nil written)
    ∙ ap (λ (t : List ℕ). written ++ t) (sym (points-end o w s e)) ∙ h

-- one more arc is written
pub written-more : (written o r all : List ℕ) (m : ℕ) → first_below (2 ^ 32) 0 o ≡ Some (m, r)
    → written ++ flat_map point (subidentifiers 0 o) ≡ all
    → (written ++ point m) ++ flat_map point (subidentifiers 0 r) ≡ all
written-more written o r all m e h =
    append_assoc written (point m) (flat_map point (subidentifiers 0 r))
    ∙ ap (λ (t : List ℕ). written ++ t) (sym (points-found o m r e)) ∙ h
