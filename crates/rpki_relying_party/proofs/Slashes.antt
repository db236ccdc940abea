-- Octets that are cut at the first slash.
use Rattle.std.proofs.Common.{◌≡◌, ◌≢◌, ◌<◌, ◌+◌, ◌∙◌, ℕ, List, [], false, ap}
use Rattle.std.proofs.Common.{get_or, length, drop, arith, eq-eqb, rules}
use Rattle.std.proofs.lemmas.List.{drop_all}
use Rattle.std.proofs.lemmas.List.Sums.{position_or_len_is}
use Rattle.rpki_relying_party.specs.Names.{is_slash, after_slash}

-- an octet that is no slash
no-slash : (o : ℕ) → o ≢ 0x2f → is_slash o ≡ false
no-slash o n = search rules

-- what stands after the first slash
pub after-first : (xs : List ℕ) (at : ℕ) → at < length xs → get_or xs at 0 ≡ 0x2f
    → ((k : ℕ) → k < at → get_or xs k 0 ≢ 0x2f) → after_slash xs ≡ drop (at + 1) xs
after-first xs at inside here before =
    ap (λ (n : ℕ). drop (n + 1) xs)
    (position_or_len_is is_slash xs at 0 (omega arith)
    (λ k l. no-slash (get_or xs k 0) (before k l)) (λ l. eq-eqb (get_or xs at 0) 0x2f here))

-- there is none
pub after-none : (xs : List ℕ) → ((k : ℕ) → k < length xs → get_or xs k 0 ≢ 0x2f)
    → after_slash xs ≡ []
after-none xs none =
    ap (λ (n : ℕ). drop (n + 1) xs)
    (position_or_len_is is_slash xs (length xs) 0 (omega arith)
    (λ k l. no-slash (get_or xs k 0) (none k l)) (λ l. absurd (omega arith)))
    ∙ drop_all (length xs + 1) xs (omega arith)
