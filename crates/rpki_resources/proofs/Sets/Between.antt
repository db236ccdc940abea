-- when a number lies between two
use Rattle.std.proofs.Common.{◌≡◌, ℕ, ◌+◌, ◌<◌, ◌≤◌, true, false, ◌||◌, arith, ◌⊎◌}
use Rattle.std.proofs.lemmas.Bool.Decides.{nat_tests}
use Rattle.rpki_resources.specs.Blocks.{is_between}

pub between-in : (lo hi n : ℕ) → lo ≤ n → n ≤ hi → is_between lo hi n ≡ true
unfolding is_between
between-in lo hi n l h = grind (arith, nat_tests)

pub between-before : (lo hi n : ℕ) → n < lo → is_between lo hi n ≡ false
unfolding is_between
between-before lo hi n l = grind (arith, nat_tests)

pub between-after : (lo hi n : ℕ) → hi < n → is_between lo hi n ≡ false
unfolding is_between
between-after lo hi n l = grind (arith, nat_tests)

pub between-low : (lo hi n : ℕ) → is_between lo hi n ≡ true → lo ≤ n
unfolding is_between
between-low lo hi n e = grind (arith, nat_tests)

pub between-high : (lo hi n : ℕ) → is_between lo hi n ≡ true → n ≤ hi
unfolding is_between
between-high lo hi n e = grind (arith, nat_tests)

-- the test, with what it tells
pub between-tells : (lo hi n : ℕ)
    → ((is_between lo hi n ≡ true) × (lo ≤ n) × (n ≤ hi))
    ⊎ ((is_between lo hi n ≡ false) × ((n < lo) ⊎ (hi < n)))
unfolding is_between
between-tells lo hi n = grind (arith, nat_tests)

pub between-none : (lo hi n : ℕ) → hi < lo → is_between lo hi n ≡ false
unfolding is_between
between-none lo hi n l = grind (arith, nat_tests)

-- two that touch make one
pub between-joined : (a b c d hi n : ℕ) → a ≤ b → a ≤ c → c ≤ b + 1 → c ≤ d → b ≤ hi → d ≤ hi
    → (hi ≡ b) ⊎ (hi ≡ d) → is_between a hi n ≡ (is_between a b n || is_between c d n)
unfolding is_between
between-joined a b c d hi n h1 h2 h3 h4 h5 h6 h7 = grind (arith, nat_tests)
