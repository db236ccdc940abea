-- What a certificate claims of a family of numbers.
pub mod Form
pub mod Read
use Rattle.std.specs.Prelude.{◌≡◌, ℕ, List, [], ◌∷◌}
use Rattle.rpki_resources.specs.declared.block.Block.{Block}
use Rattle.rpki_resources.specs.declared.resources.Claim.{Claim}
use Rattle.rpki_resources.specs.declared.resources.Claim.TheVariants.{Missing, Inherit, Explicit}
use Rattle.rpki_resources.specs.Blocks.{Covers, IsCanonical, SameSet}

-- a copy of a claim, where a copy of the numbers is one by `same`
abbrev pub IsClaimClone : {B : Type 0} → (B → B → Type 0) → Claim B → Claim B → Type 0
IsClaimClone same Missing copy = copy ≡ Missing
IsClaimClone same Inherit copy = copy ≡ Inherit
IsClaimClone same (Explicit numbers) Missing = ⊥
IsClaimClone same (Explicit numbers) Inherit = ⊥
IsClaimClone same (Explicit numbers) (Explicit others) = same numbers others

-- the claim of a set: missing, where it is empty
abbrev pub claim_of : {T : Type 0} → List (Block T) → Claim (List (Block T))
claim_of [] = Missing
claim_of (b ∷ bs) = Explicit (b ∷ bs)

-- The claim stands for this set: one that is missing for the empty set, since what is not named is
-- not claimed, one that is inherited for none that is known here.
abbrev pub HasBlocks : {T : Type 0} → Claim (List (Block T)) → List (Block T) → Type 0
HasBlocks Missing set = set ≡ []
HasBlocks Inherit set = ⊥
HasBlocks (Explicit blocks) set = set ≡ blocks

-- the claim has each number of the set: one that is inherited has every number, one that is missing
-- none (RFC 3779, 2.3 and 3.3)
abbrev pub IsCoveredBy : {T : Type 0} → (T → ℕ) → Claim (List (Block T)) → List (Block T) → Type 0
IsCoveredBy f Missing set = set ≡ []
IsCoveredBy f Inherit set = Unit {0}
IsCoveredBy f (Explicit blocks) set = Covers f blocks set

-- the blocks that were added so far
abbrev pub added : {T : Type 0} → Claim (List (Block T)) → List (Block T)
added Missing = []
added Inherit = []
added (Explicit blocks) = blocks

-- what is built: of blocks that were added the claim of the set of their numbers, and of a claim
-- that is missing or inherited this claim itself
abbrev pub IsBuilt : {T : Type 0} → (T → ℕ) → Claim (List (Block T)) → Claim (List (Block T))
    → Type 0
IsBuilt f Missing claim = claim ≡ Missing
IsBuilt f Inherit claim = claim ≡ Inherit
IsBuilt {T} f (Explicit blocks) claim =
    (set : List (Block T)) × IsCanonical f set × SameSet f set blocks × (claim ≡ claim_of set)
