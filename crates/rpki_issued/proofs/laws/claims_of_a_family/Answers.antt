use Rattle.std.proofs.Common.{ℕ, List, [], ◌∷◌, sym, subst}
use Rattle.std.specs.Prelude.{All}
use Rattle.rpki_resources.specs.declared.block.Block.{Block}
use Rattle.rpki_resources.specs.declared.family.AddressFamily.{AddressFamily}
use Rattle.rpki_resources.specs.Claim.{claim_of}
use Rattle.rpki_resources.specs.Family.{IsWithin}
use Rattle.rpki_resources.proofs.Addresses.Aligned.{built}
use Rattle.rpki_issued.specs.Written.{OfNumbers}
use Rattle.rpki_issued.proofs.laws.claims_of_a_family.Goals as goal

-- the claim of a set of this family
of-set : (family : AddressFamily) (set : List (Block ℕ)) → All (IsWithin family) set
    → OfNumbers (All (IsWithin family)) (claim_of set)
of-set family [] h = tt
of-set family (b ∷ bs) h = h

pub returns : goal.returns
returns c = λ family blocks claim h k.
    subst (OfNumbers (All (IsWithin family))) (sym k.3)
    (of-set family k.0 (built family blocks k.0 h k.1 k.2))
