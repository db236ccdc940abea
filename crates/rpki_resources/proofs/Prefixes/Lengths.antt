-- the length of the prefix whose addresses are given
use Rattle.std.proofs.Common.{◌≡◌, ℕ, zero, suc, ◌+◌, ◌-◌, ◌%◌, ◌^◌, ◌<◌, ◌≤◌, None, Some, Bool}
use Rattle.std.proofs.Common.{true, false, refl, sym, ◌∙◌, subst, ◌≢◌, arith}
use Rattle.std.specs.Int.Count.{count_leading_zeros, leading_unique}
use native.Mathlib.Numerals.{unary_clauses}
use Rattle.std.proofs.lemmas.Nat.{pow_pos}
use Rattle.std.proofs.lemmas.Bool.{eqb-true, eq-eqb, and_parts, and_from}
use Rattle.rpki_resources.specs.Prefix.{Network, IsPrefix, is_prefix, below, prefix_len, first_of}
use Rattle.rpki_resources.specs.Prefix.{last_of}

-- as many zero bits lead the difference of the ends
pub prefix-leading : (lo hi len : ℕ) → IsPrefix lo hi len → len ≡ count_leading_zeros 128 (hi - lo)
prefix-leading lo hi len p =
    let m : ℕ = 128 - len in
    let pos : 0 < 2 ^ m = pow_pos m in
    let size : hi + 1 ≡ lo + 2 ^ m = p.size in
    let sum : len + m ≡ 128 = omega (arith, p.within) in
    leading_unique 128 (hi - lo) len m sum (omega arith) (omega arith)

pub prefix-unique : (lo hi len k : ℕ) → IsPrefix lo hi len → IsPrefix lo hi k → len ≡ k
prefix-unique lo hi len k p q = prefix-leading lo hi len p ∙ sym (prefix-leading lo hi k q)

tested : (lo hi len : ℕ) → len ≤ 128 → is_prefix lo hi len ≡ true → IsPrefix lo hi len
tested lo hi len l e = let p = and_parts _ _ e in
    record { within = l; aligned = eqb-true _ _ p.0; size = eqb-true _ _ p.1 }

is-tested : (lo hi len : ℕ) → IsPrefix lo hi len → is_prefix lo hi len ≡ true
is-tested lo hi len p = and_from _ _ (eq-eqb _ _ p.aligned) (eq-eqb _ _ p.size)

-- one step, by the answer of the test
step-some : (b : Bool) (n lo hi len : ℕ) → n ≤ 128 → is_prefix lo hi n ≡ b → len < suc n
    → IsPrefix lo hi len → (len < n → below n lo hi ≡ Some len) → below (suc n) lo hi ≡ Some len
step-some true n lo hi len h e l p others =
    rw (e, prefix-unique lo hi len n p (tested lo hi n h e)) refl
step-some false n lo hi len h e l p others = rw e (others (omega (arith, differs)))
  where
    differs : len ≢ n
    differs same = let t : true ≡ false = sym (is-tested lo hi n (subst (IsPrefix lo hi) same p))
        ∙ e in absurd cc

below-some : (n lo hi len : ℕ) → n ≤ 129 → len < n → IsPrefix lo hi len → below n lo hi ≡ Some len
below-some zero lo hi len h l p = absurd (omega arith)
below-some (suc n) lo hi len h l p =
    step-some (is_prefix lo hi n) n lo hi len (omega arith) refl l p
    (λ k. below-some n lo hi len (omega arith) k p)

step-none : (b : Bool) (n lo hi : ℕ) → n ≤ 128 → is_prefix lo hi n ≡ b
    → ((len : ℕ) → IsPrefix lo hi len → ⊥) → below n lo hi ≡ None → below (suc n) lo hi ≡ None
step-none true n lo hi h e none others = absurd (none n (tested lo hi n h e))
step-none false n lo hi h e none others = rw e others

below-none : (n lo hi : ℕ) → n ≤ 129 → ((len : ℕ) → IsPrefix lo hi len → ⊥) → below n lo hi ≡ None
below-none zero lo hi h none = refl
below-none (suc n) lo hi h none =
    step-none (is_prefix lo hi n) n lo hi (omega arith) refl none
    (below-none n lo hi (omega arith) none)

pub prefix_len-some : (lo hi len : ℕ) → IsPrefix lo hi len → prefix_len lo hi ≡ Some len
unfolding prefix_len
prefix_len-some lo hi len p = below-some 129 lo hi len (omega arith) (omega (arith, p.within)) p

pub prefix_len-none : (lo hi : ℕ) → ((len : ℕ) → IsPrefix lo hi len → ⊥) → prefix_len lo hi ≡ None
unfolding prefix_len
prefix_len-none lo hi none = below-none 129 lo hi (omega arith) none

-- the ends of a prefix are in order
pub prefix-order : (lo hi len : ℕ) → IsPrefix lo hi len → lo ≤ hi
prefix-order lo hi len p = let pos : 0 < 2 ^ (128 - len) = pow_pos (128 - len) in
    omega (arith, p.size)

-- a prefix by its first address
pub network-of : (a k len : ℕ) → k ≡ len → a % 2 ^ (128 - len) ≡ 0 → (n : Network)
    → n ≡ record { addr = first_of a k; len = k } → n ≡ record { addr = a; len = len }
network-of a k len e h n d = d ∙ rw (e, h) (simp unary_clauses)

pub last_of-prefix : (lo hi len : ℕ) → IsPrefix lo hi len → last_of lo len ≡ hi
last_of-prefix lo hi len p = omega (arith, p.aligned, p.size)

-- what is found is the length of a prefix
tells-step : (b : Bool) (n lo hi len : ℕ) → n ≤ 128 → is_prefix lo hi n ≡ b
    → (below n lo hi ≡ Some len → IsPrefix lo hi len) → below (suc n) lo hi ≡ Some len
    → IsPrefix lo hi len
tells-step true n lo hi len h e others f = let s : Some n ≡ Some len = rw e at f in
    let k : n ≡ len = cc in subst (IsPrefix lo hi) k (tested lo hi n h e)
tells-step false n lo hi len h e others f = others (rw e at f)

below-tells : (n lo hi len : ℕ) → n ≤ 129 → below n lo hi ≡ Some len → IsPrefix lo hi len
below-tells zero lo hi len h f = absurd cc
below-tells (suc n) lo hi len h f =
    tells-step (is_prefix lo hi n) n lo hi len (omega arith) refl
    (below-tells n lo hi len (omega arith)) f

pub prefix_len-tells : (lo hi len : ℕ) → prefix_len lo hi ≡ Some len → IsPrefix lo hi len
unfolding prefix_len
prefix_len-tells lo hi len f = below-tells 129 lo hi len (omega arith) f
