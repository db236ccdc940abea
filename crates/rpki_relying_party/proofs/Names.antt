-- The name of a file.
use Rattle.std.proofs.Common.{◌≡◌, ◌≢◌, ◌<◌, ◌≤◌, ◌+◌, ◌-◌, ◌∙◌, ℕ, List, false, ap}
use Rattle.std.proofs.Common.{get_or, length, drop, arith, eq-eqb, rules}
use Rattle.std.proofs.lemmas.List.Sums.{suffix_len_is}
use Rattle.std.specs.List.{suffix_len}
use Rattle.std.specs.Prelude.{Bool, not, ◌==◌}
use Rattle.rpki_relying_party.specs.Texts.{name_of}

-- whether an octet is a slash
abbrev slash : ℕ → Bool
slash o = o == 0x2f

-- an octet that is no slash
no-slash : (o : ℕ) → o ≢ 0x2f → slash o ≡ false
no-slash o n = search rules

-- what stands after the last slash
pub after-last : (xs : List ℕ) (at : ℕ) → at < length xs → get_or xs at 0 ≡ 0x2f
    → ((k : ℕ) → at + 1 ≤ k → k < length xs → get_or xs k 0 ≢ 0x2f)
    → name_of xs ≡ drop (at + 1) xs
after-last xs at inside here after =
    let long : suffix_len (λ o. not (slash o)) xs ≡ length xs - (at + 1) =
    suffix_len_is (λ o. not (slash o)) xs (at + 1) 0 (omega arith)
    (λ k l m. ap not (no-slash (get_or xs k 0) (after k l m)))
    (λ l. ap (λ (n : ℕ). not (slash (get_or xs n 0))) (one-less at)
    ∙ ap not (eq-eqb (get_or xs at 0) 0x2f here)) in
    let left : length xs - suffix_len (λ o. not (slash o)) xs ≡ at + 1 =
    omega (arith, long) in
    ap (λ (n : ℕ). drop n xs) left
  where
    one-less : (n : ℕ) → n + 1 - 1 ≡ n
    one-less n = omega arith

-- all of it, where there is none
pub last-none : (xs : List ℕ) → ((k : ℕ) → k < length xs → get_or xs k 0 ≢ 0x2f)
    → name_of xs ≡ xs
last-none xs none =
    let long : suffix_len (λ o. not (slash o)) xs ≡ length xs - 0 =
    suffix_len_is (λ o. not (slash o)) xs 0 0 (omega arith)
    (λ k l m. ap not (no-slash (get_or xs k 0) (none k m))) (λ l. absurd (omega arith)) in
    let all : length xs - suffix_len (λ o. not (slash o)) xs ≡ 0 = omega (arith, long) in
    ap (λ (n : ℕ). drop n xs) all
