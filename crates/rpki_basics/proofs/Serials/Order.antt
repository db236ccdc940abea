-- Serial numbers are in the order of their digits.
use Rattle.std.proofs.Common.{◌≡◌, ℕ, ◌+◌, ◌*◌, ◌^◌, ◌<◌, List, [], ◌∷◌, length, refl, arith}
use Rattle.std.proofs.Common.{nat_cmp}
use Rattle.std.specs.declared.cmp.Ordering.{Ordering}
use Rattle.std.specs.declared.cmp.Ordering.TheVariants.{Less, Equal, Greater}
use Rattle.std.specs.Cmp.{nat_cmp_is}
use Rattle.std.specs.Cmp.Lexicographic.{slice_cmp}
use Rattle.std.specs.Ordering.{MatchOrdering, ordering_then}
use Rattle.std.proofs.lemmas.Cmp.{ranked}
use Rattle.std.proofs.lemmas.Nat.{mul-add-lt}
use Rattle.std.proofs.Math.Nat.{mul_comm}
use Rattle.rpki_der.specs.Numbers.{number}
use Rattle.rpki_der.specs.Grammar.{IsBytes}
use Rattle.rpki_der.proofs.Reading.Digits.{number-head, number-below}

-- a number with a smaller first digit is smaller
smaller : (a b w m n : ℕ) → a < b → m < w → a * w + m < b * w + n
smaller a b w m n h k =
    omega (arith, mul-add-lt a w m b h k, mul_comm w b)

-- numbers with the same first digit are in the order of what follows it
moved : (w m n : ℕ) (o : Ordering) → MatchOrdering o (m < n) (m ≡ n) (n < m)
    → MatchOrdering o (w + m < w + n) (w + m ≡ w + n) (w + n < w + m)
moved w m n Less h = omega (arith, h)
moved w m n Equal h = omega (arith, h)
moved w m n Greater h = omega (arith, h)

pub digits-order : (xs ys : List ℕ) → length xs ≡ length ys → IsBytes xs → IsBytes ys
    → slice_cmp nat_cmp xs ys ≡ nat_cmp (number 0 xs) (number 0 ys)
digits-order [] [] e h k = refl
digits-order [] (y ∷ ys) e h k = absurd (omega (arith, e))
digits-order (x ∷ xs) [] e h k = absurd (omega (arith, e))
digits-order (x ∷ xs) (y ∷ ys) e h k = by (digits-order xs ys (omega (arith, e)) (h.1) (k.1))
    (nat_cmp x y) (ranked x y (nat_cmp x y) refl)
  where
    lengths : length xs ≡ length ys
    lengths = omega (arith, e)

    below : number 0 ys < 256 ^ length xs
    below = rw lengths (number-below ys (k.1))

    left : number 0 (x ∷ xs) ≡ x * 256 ^ length xs + number 0 xs
    left = number-head x xs

    right : number 0 (y ∷ ys) ≡ y * 256 ^ length xs + number 0 ys
    right = rw lengths (number-head y ys)

    by : slice_cmp nat_cmp xs ys ≡ nat_cmp (number 0 xs) (number 0 ys)
        → (o : Ordering) → MatchOrdering o (x < y) (x ≡ y) (y < x)
        → ordering_then o (slice_cmp nat_cmp xs ys)
        ≡ nat_cmp (number 0 (x ∷ xs)) (number 0 (y ∷ ys))
    by r Less l = nat_cmp_is (number 0 (x ∷ xs)) (number 0 (y ∷ ys)) Less
        (omega (
          arith,
          left,
          right,
          smaller x y (256 ^ length xs) (number 0 xs) (number 0 ys) l
              (number-below xs (h.1)),
        ))
    by r Equal s = nat_cmp_is (number 0 (x ∷ xs)) (number 0 (y ∷ ys)) (slice_cmp nat_cmp xs ys)
        (rw (left, right, s, r)
        (moved (y * 256 ^ length xs) (number 0 xs) (number 0 ys)
        (nat_cmp (number 0 xs) (number 0 ys))
        (ranked (number 0 xs) (number 0 ys) (nat_cmp (number 0 xs) (number 0 ys)) refl)))
    by r Greater g = nat_cmp_is (number 0 (x ∷ xs)) (number 0 (y ∷ ys)) Greater
        (omega (
          arith,
          left,
          right,
          smaller y x (256 ^ length xs) (number 0 ys) (number 0 xs) g
              below,
        ))
