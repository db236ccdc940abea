-- Contents that are built: of the keys, the blocks of numbers and the digest that were handed in.
use Rattle.std.specs.Prelude.{◌≡◌, ℕ, ◌<◌, ◌^◌, ◌⊎◌, List, [], ◌∷◌, length}
use Rattle.rpki_basics.specs.declared.build.BuildFault.{BuildFault}
use Rattle.rpki_basics.specs.declared.build.BuildFault.TheVariants as fault
use Rattle.rpki_faults.specs.Checks.{Check, ◌unless◌}
use Rattle.rpki_resources.specs.Blocks.{Holds, IsSetOf}
use Rattle.rpki_tagged.specs.Attestation.{Attestation, attestation_contents}
use Rattle.rpki_lists.specs.Named.{Set}

-- The content has the keys in their order, the digest, and of each kind the numbers of the blocks,
-- and no others.
pub record IsBuiltOf (builder content : Attestation) : Type 0 where
  pub keys : content.subject_keys ≡ builder.subject_keys
  pub numbers : IsSetOf builder.as_resources content.as_resources
  pub v4 : IsSetOf builder.v4_resources content.v4_resources
  pub v6 : IsSetOf builder.v6_resources content.v6_resources
  pub digest : content.message_digest ≡ builder.message_digest

-- a number lies in the blocks
abbrev pub HaveNumber : Set → Type 0
HaveNumber blocks = (n : ℕ) × Holds (λ n. n) blocks n

-- there is an AS number, or an address of a family
abbrev pub HasNumbers : Attestation → Type 0
HasNumbers a = HaveNumber a.as_resources ⊎ (HaveNumber a.v4_resources ⊎ HaveNumber a.v6_resources)

-- what is asked of a content that is built
abbrev pub attestation_checks : Attestation → List (Check BuildFault)
attestation_checks a = (fault.NoResources unless HasNumbers a) ∷ []

-- what is built has too many octets to be written
abbrev pub IsTooLong : Attestation → Type 0
IsTooLong builder = (content : Attestation) × IsBuiltOf builder content
    × (length (attestation_contents content) < 2 ^ 32 → ⊥)
