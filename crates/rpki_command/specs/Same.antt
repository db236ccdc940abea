-- Issuers with the same numbers, whose blocks may be written in other ways.
use Rattle.std.specs.Prelude.{◌≡◌, ℕ}
use Rattle.rpki_resources.specs.Blocks.{SameSet}
use Rattle.rpki_certs.specs.Validate.{Sets, Validated}

-- The sets of each family have the same numbers.
pub record HaveSameNumbers (a b : Sets) : Type 0 where
  pub as_numbers : SameSet (λ (n : ℕ). n) a.as_numbers b.as_numbers
  pub v4 : SameSet (λ (n : ℕ). n) a.v4 b.v4
  pub v6 : SameSet (λ (n : ℕ). n) a.v6 b.v6

-- Both are the same certificate with the same numbers.
pub record IsSameIssuer (v w : Validated) : Type 0 where
  pub cert : v.cert ≡ w.cert
  pub numbers : HaveSameNumbers v.sets w.sets
