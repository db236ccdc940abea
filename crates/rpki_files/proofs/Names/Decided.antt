-- The names of files are what their test says.
use Rattle.std.proofs.Common.{◌≡◌, ℕ, ◌+◌, ◌-◌, ◌≤◌, ◌<◌, Bool, true, false, cond, List, []}
use Rattle.std.proofs.Common.{◌∷◌, ◌++◌, length, take, drop, All, refl, sym, ap, subst, ◌∙◌, arith}
use Rattle.std.specs.Prelude.{◌&&◌, ◌||◌, ◌==◌, Decides, nat_lt}
use Rattle.std.specs.List.{list_all}
use Rattle.std.proofs.lemmas.Bool.{eqb-true, ltb-false, le-ltb, leb-true, and_parts, and_from}
use Rattle.std.proofs.lemmas.List.{take_at, drop_at, take-append-drop, length-append}
use Rattle.std.proofs.lemmas.List.{length-take-le}
use Rattle.std.proofs.lemmas.List.Elements.{All-append, All-cons, All-nil}
use Rattle.rpki_files.specs.Checklist.Files.{is_portable, is_portable_name}
use Rattle.rpki_files.specs.Name.{IsFileName, is_file_name, is_ending, is_letter, is_stem, is_from}

ending-sound : (e : List ℕ) → is_ending e ≡ true
    → (letters : List ℕ) × (e ≡ 0x2E ∷ letters) × (length letters ≡ 3)
    × (list_all is_letter letters ≡ true)
ending-sound [] h = absurd cc
ending-sound (d ∷ []) h = absurd cc
ending-sound (d ∷ x ∷ []) h = absurd cc
ending-sound (d ∷ x ∷ y ∷ []) h = absurd cc
ending-sound (d ∷ x ∷ y ∷ z ∷ []) h =
    let p = and_parts (d == 0x2E) _ h in
    let q = and_parts (is_letter x) _ p.1 in
    let r = and_parts (is_letter y) (is_letter z) q.1 in
    let dot : d ≡ 0x2E = eqb-true _ _ p.0 in (
      x ∷ y ∷ z ∷ [],
      ap (λ (n : ℕ). n ∷ x ∷ y ∷ z ∷ []) dot,
      refl,
      and_from (is_letter x) _ q.0 (and_from (is_letter y) _ r.0
          (and_from (is_letter z) true r.1 refl)),
    )
ending-sound (d ∷ x ∷ y ∷ z ∷ w ∷ others) h = absurd cc

ending-complete : (letters : List ℕ) → length letters ≡ 3 → list_all is_letter letters ≡ true
    → is_ending (0x2E ∷ letters) ≡ true
ending-complete [] n h = absurd (omega (arith, n))
ending-complete (x ∷ []) n h = absurd (omega (arith, n))
ending-complete (x ∷ y ∷ []) n h = absurd (omega (arith, n))
ending-complete (x ∷ y ∷ z ∷ []) n h =
    let q = and_parts (is_letter x) _ h in
    let r = and_parts (is_letter y) _ q.1 in
    let s = and_parts (is_letter z) true r.1 in
    and_from (is_letter x) _ q.0 (and_from (is_letter y) (is_letter z) r.0 s.0)
ending-complete (x ∷ y ∷ z ∷ w ∷ others) n h = absurd (omega (arith, n))

name-sound : (name : List ℕ) → is_file_name name ≡ true → IsFileName name
unfolding is_file_name
name-sound name h = of (nat_lt (length name) 5) refl h
  where
    of : (t : Bool) → nat_lt (length name) 5 ≡ t
        → cond t false (list_all is_stem (take (length name - 4) name)
        && is_ending (drop (length name - 4) name)) ≡ true
        → IsFileName name
    of true e g = absurd cc
    of false e g =
        let long : 5 ≤ length name = ltb-false (length name) 5 e in
        let p = and_parts (list_all is_stem (take (length name - 4) name)) _ g in
        let q = ending-sound (drop (length name - 4) name) p.1 in
        let len : length (take (length name - 4) name) ≡ length name - 4 =
        length-take-le (length name - 4) name (omega arith) in
        record {
          stem = take (length name - 4) name;
          ending = q.0;
          parts = sym (take-append-drop (length name - 4) name)
              ∙ ap (λ (e : List ℕ). take (length name - 4) name ++ e) q.1;
          some = omega (arith, len, long);
          characters = p.0;
          three = q.2;
          letters = q.3;
        }

name-complete : (name : List ℕ) → IsFileName name → is_file_name name ≡ true
unfolding is_file_name
name-complete name h =
    let len : length name ≡ length (h.stem ++ (0x2E ∷ h.ending)) = ap length h.parts in
    let all : length name ≡ length h.stem + 4 =
    omega (arith, len, length-append h.stem (0x2E ∷ h.ending), h.three) in
    let long : nat_lt (length name) 5 ≡ false = le-ltb _ _ (omega (arith, all, h.some)) in
    let at : length h.stem ≡ length name - 4 = omega (arith, all) in
    let front : take (length name - 4) name ≡ h.stem =
    ap (take (length name - 4)) h.parts ∙ take_at h.stem (0x2E ∷ h.ending) (length name - 4) at in
    let back : drop (length name - 4) name ≡ 0x2E ∷ h.ending =
    ap (drop (length name - 4)) h.parts ∙ drop_at h.stem (0x2E ∷ h.ending) (length name - 4) at in
    rw (long, front, back)
    (and_from (list_all is_stem h.stem) _ h.characters
    (ending-complete h.ending h.three h.letters))

pub name-decides : (name : List ℕ) → Decides (is_file_name name) (IsFileName name)
name-decides name = (name-sound name, name-complete name)

-- ---- they are characters of an IA5String

pub or-true : (a b : Bool) → (a || b) ≡ true → (P : Type 0) → (a ≡ true → P) → (b ≡ true → P) → P
or-true true b e P f g = f refl
or-true false b e P f g = g e

from-below : (low high b : ℕ) → high < 128 → is_from low high b ≡ true → b < 128
from-below low high b small h =
    let p = and_parts _ _ h in
    let le : b ≤ high = leb-true b high p.1 in
    omega (arith, le, small)

letter-below : (b : ℕ) → is_letter b ≡ true → b < 128
letter-below b h = or-true (is_from 0x61 0x7A b) (is_from 0x41 0x5A b) h (b < 128)
    (from-below 0x61 0x7A b (omega arith)) (from-below 0x41 0x5A b (omega arith))

stem-below : (b : ℕ) → is_stem b ≡ true → b < 128
stem-below b h = or-true (is_letter b) _ h (b < 128) (letter-below b)
    (λ k. or-true (is_from 0x30 0x39 b) _ k (b < 128) (from-below 0x30 0x39 b (omega arith))
    (λ l. or-true (b == 0x2D) (b == 0x5F) l (b < 128)
    (λ e. let is : b ≡ 0x2D = eqb-true b 0x2D e in omega (arith, is))
    (λ e. let is : b ≡ 0x5F = eqb-true b 0x5F e in omega (arith, is))))

all-below : (test : ℕ → Bool) → ((b : ℕ) → test b ≡ true → b < 128) → (bs : List ℕ)
    → list_all test bs ≡ true → All (λ b. b < 128) bs
all-below test f [] h = All-nil (λ b. b < 128)
all-below test f (b ∷ bs) h =
    let p = and_parts (test b) _ h in
    All-cons (λ b. b < 128) b bs (f b p.0) (all-below test f bs p.1)

pub name-below : (name : List ℕ) → IsFileName name → All (λ b. b < 128) name
name-below name h =
    subst (λ (n : List ℕ). All (λ b. b < 128) n) (sym h.parts)
    (All-append (λ b. b < 128) h.stem (0x2E ∷ h.ending)
    (all-below is_stem stem-below h.stem h.characters)
    (All-cons (λ b. b < 128) 0x2E h.ending (omega arith)
    (all-below is_letter letter-below h.ending h.letters)))

-- ---- and so are those of a checklist

pub portable-below : (name : List ℕ) → is_portable_name name ≡ true → All (λ b. b < 128) name
portable-below name h = all-below is_portable (λ b k. or-true (is_stem b) (b == 0x2E) k (b < 128)
    (stem-below b) (λ e. let is : b ≡ 0x2E = eqb-true b 0x2E e in omega (arith, is))) name h
