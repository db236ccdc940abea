-- Sets of numbers, as they are compared.
use Rattle.std.specs.Prelude.{ℕ, List}
use Rattle.rpki_resources.specs.declared.block.Block.{Block}
use Rattle.rpki_resources.specs.Blocks.{Holds}

-- A number is in both sets.
abbrev pub HaveCommon : List (Block ℕ) → List (Block ℕ) → Type 0
HaveCommon first second =
    (n : ℕ) × Holds (λ (m : ℕ). m) first n × Holds (λ (m : ℕ). m) second n
