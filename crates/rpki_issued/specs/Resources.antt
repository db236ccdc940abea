-- Claims of the blocks that a caller adds.
use Rattle.std.specs.Prelude.{ℕ, List}
use Rattle.rpki_resources.specs.declared.block.Block.{Block}
use Rattle.rpki_resources.specs.declared.resources.Claim.{Claim}
use Rattle.rpki_resources.specs.declared.resources.Claim.TheVariants.{Explicit}
use Rattle.rpki_resources.specs.Claim.{IsBuilt}

-- The claim is that of the numbers in blocks that may be left behind, and missing where there is
-- none.
abbrev pub IsOfBlocks : (List (Block ℕ) → Type 0) → Claim (List (Block ℕ)) → Type 0
IsOfBlocks left claim =
    (blocks : List (Block ℕ)) × left blocks × IsBuilt (λ n. n) (Explicit blocks) claim
