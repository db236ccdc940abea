-- Manifests that are signed.
use Rattle.std.proofs.Common.{◌≡◌, ℕ, List}
use Rattle.rpki_resources.specs.declared.block.Block.{Block}
use Rattle.rpki_resources.specs.declared.resources.Claim.{Claim}
use Rattle.rpki_resources.specs.declared.resources.Claim.TheVariants.{Inherit, Missing}
use Rattle.rpki_certs.specs.Inspect.{NamesNothing}
use Rattle.rpki_certs.specs.Validate.{AreAllowed, Sets}
use Rattle.rpki_signing.specs.Built.{Settings, claims_of}
use Rattle.rpki_files.specs.Manifest.Signed.{inheriting}

-- where all is inherited, a family is named
pub inherits-some : (b : Settings) → NamesNothing (claims_of (inheriting b)) → ⊥
inherits-some b h =
    let never : (let c : Claim (List (Block ℕ)) = Inherit in c) ≡ Missing = h.0 in cc

-- and what is claimed is allowed
pub inherits-all : (b : Settings) (sets : Sets) → AreAllowed (claims_of (inheriting b)) sets
inherits-all b sets = record {
  as_numbers = λ _ named h. absurd h;
  v4 = λ _ named h. absurd h;
  v6 = λ _ named h. absurd h;
}
