-- A claim of one block of IPv4 addresses.
use Rattle.std.proofs.Common.{◌≡◌, ◌∙◌, ℕ, List, [], ◌∷◌, ap, refl, subst, arith}
use Rattle.std.specs.Prelude.{All}
use Rattle.std.proofs.lemmas.List.Elements.{All-cons, All-nil}
use Rattle.rpki_resources.specs.declared.block.Block.{Block}
use Rattle.rpki_resources.specs.declared.family.AddressFamily.TheVariants.{Ipv4}
use Rattle.rpki_resources.specs.declared.resources.Claim.{Claim}
use Rattle.rpki_resources.specs.declared.resources.Claim.TheVariants.{Explicit}
use Rattle.rpki_resources.specs.Blocks.{IsCanonical, SameSet}
use Rattle.rpki_resources.specs.Claim.{IsBuilt, claim_of}
use Rattle.rpki_resources.specs.Family.{IsWithin}
use Rattle.rpki_examples.specs.Claimed.{private_addresses}

-- the block alone
abbrev pub alone : List (Block ℕ)
alone = private_addresses ∷ []

-- it is one of IPv4
pub alone-within : All (IsWithin Ipv4) alone
alone-within =
    All-cons (IsWithin Ipv4) private_addresses []
    (record { lower = refl; upper = refl; below = omega arith }) (All-nil (IsWithin Ipv4))

alone-canonical : IsCanonical (λ (n : ℕ). n) alone
alone-canonical = (omega arith, omega arith, tt)

-- the claim that is built of it is that of the block itself
pub claim-alone : ((a b : List (Block ℕ)) → IsCanonical (λ (n : ℕ). n) a
    → IsCanonical (λ (n : ℕ). n) b → SameSet (λ (n : ℕ). n) a b → a ≡ b)
    → (blocks : List (Block ℕ)) (claim : Claim (List (Block ℕ))) → blocks ≡ alone
    → IsBuilt (λ (n : ℕ). n) (Explicit blocks) claim → claim ≡ Explicit alone
claim-alone only blocks claim e built =
    built.3
    ∙ ap (λ (set : List (Block ℕ)). claim_of set)
    (only built.0 alone built.1 alone-canonical
    (subst (λ (bs : List (Block ℕ)). SameSet (λ (n : ℕ). n) built.0 bs) e built.2))
