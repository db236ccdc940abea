-- The validated set of a claim, of one family of numbers.
use Rattle.std.specs.Prelude.{◌≡◌, ◌⊎◌, ℕ, List}
use Rattle.rpki_resources.specs.declared.block.Block.{Block}
use Rattle.rpki_resources.specs.declared.resources.Claim.{Claim}
use Rattle.rpki_resources.specs.declared.resources.Claim.TheVariants.{Inherit}
use Rattle.rpki_resources.specs.Blocks.{Covers, IsIntersection}
use Rattle.rpki_resources.specs.Claim.{HasBlocks}
use Rattle.rpki_faults.specs.declared.overclaim.Overclaim.{Overclaim}
use Rattle.rpki_faults.specs.declared.overclaim.Overclaim.TheVariants.{Refuse, Trim}

-- Where a claim of too much is refused, the issuer has each number that is named (RFC 6487, section
-- 7.2). What is inherited names none.
abbrev pub IsAllowed : {T : Type 0} → (T → ℕ) → Overclaim → Claim (List (Block T)) → List (Block T)
    → Type 0
IsAllowed {T} f overclaim claim issuer =
    overclaim ≡ Refuse → (named : List (Block T)) → HasBlocks claim named → Covers f issuer named

-- What is left of the numbers that are named: all of them, or those that the issuer has too (RFC
-- 8360, section 4.2.4.4).
abbrev pub IsLeft : {T : Type 0} → (T → ℕ) → Overclaim → List (Block T) → List (Block T)
    → List (Block T) → Type 0
IsLeft f Refuse named issuer set = set ≡ named
IsLeft f Trim named issuer set = IsIntersection f named issuer set

-- The set is the validated one: the issuer's where the claim is inherited, and else what is left of
-- the numbers that it names. A family that is missing names none.
abbrev pub IsValidated : {T : Type 0} → (T → ℕ) → Overclaim → Claim (List (Block T))
    → List (Block T) → List (Block T) → Type 0
IsValidated {T} f overclaim claim issuer set =
    ((claim ≡ Inherit) × (set ≡ issuer))
    ⊎ ((named : List (Block T)) × HasBlocks claim named × IsLeft f overclaim named issuer set)
