-- Prefixes that have no bits after their length.
use Rattle.std.proofs.Common.{◌≡◌, ℕ, ◌+◌, ◌-◌, ◌%◌, ◌^◌, ◌≤◌, arith, subst}
use Rattle.std.specs.Int.{w128, trailing_zeros}
use Rattle.std.proofs.lemmas.Nat.{mod-pow-add}
use Rattle.rpki_resources.proofs.Addresses.Trailing.{lower-dropped}

-- what ends in so many zeros ends in fewer
fewer : (n t host : ℕ) → host ≤ t → n % 2 ^ t ≡ 0 → n % 2 ^ host ≡ 0
fewer n t host l h =
    let split : t ≡ t - host + host = omega (arith, l) in
    let all : n % 2 ^ (t - host + host) ≡ 0 = subst (λ (m : ℕ). n % 2 ^ m ≡ 0) split h in
    omega (arith, all, mod-pow-add n (t - host) host)

-- an address that ends in so many zeros
pub aligned : (addr host : ℕ) → host ≤ trailing_zeros w128 addr → addr % 2 ^ host ≡ 0
aligned addr host l = fewer addr (trailing_zeros w128 addr) host l (lower-dropped addr)
