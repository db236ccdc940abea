-- The claim of one number.
use Rattle.std.proofs.Common.{◌≡◌, ℕ, List, [], ◌∷◌, ◌++◌, arith}
use Rattle.rpki_resources.specs.declared.block.Block.{Block}
use Rattle.rpki_resources.specs.Blocks.{IsCanonical, SameSet}
use Rattle.rpki_resources.proofs.Sets.Same.{same_blocks}

-- a set of the numbers of one block is that block
pub one-number : (n : ℕ) (set before after : List (Block ℕ)) → before ≡ []
    → after ≡ before ++ record { min = n; max = n } ∷ [] → SameSet (λ m. m) set after
    → IsCanonical (λ m. m) set → set ≡ record { min = n; max = n } ∷ []
one-number n set before after none is same canonical =
    same_blocks (λ m. m) (λ x y e. e) 0 0 set (record { min = n; max = n } ∷ []) canonical
    (omega arith, omega arith, tt) (rw none at (rw is at same))
