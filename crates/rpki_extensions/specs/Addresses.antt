-- What is claimed of both families of addresses.
use Rattle.std.specs.Prelude.{ℕ, List, unwrap_or}
use Rattle.rpki_der.specs.declared.mode.Mode.{Mode}
use Rattle.rpki_der.specs.Form.Made.{Made, made}
use Rattle.rpki_der.specs.Read.Parse.{Parser}
use Rattle.rpki_resources.specs.declared.block.Block.{Block}
use Rattle.rpki_resources.specs.declared.by_family.ByFamily.{ByFamily}
use Rattle.rpki_resources.specs.declared.resources.Claim.{Claim}
use Rattle.rpki_resources.specs.declared.resources.Claim.TheVariants.{Missing}
use Rattle.rpki_resources.specs.Claim.Form.{IpClaimForm}
use Rattle.rpki_resources.specs.Claim.Read.{ip_claim_at}
use Rattle.rpki_resources.specs.Families.Form.{FamiliesForm}
use Rattle.rpki_resources.specs.Families.Read.{families_at}
use Rattle.rpki_extensions.specs.declared.addresses.IpClaims.{IpClaims}

-- The claims of the families that are named. One that is not named is missing.
abbrev pub claims_of : ByFamily (Claim (List (Block ℕ))) → IpClaims
claims_of named = record {
  v4 = unwrap_or named.v4 Missing;
  v6 = unwrap_or named.v6 Missing;
}

-- IPAddrBlocks: SEQUENCE OF IPAddressFamily (RFC 3779, section 2.2.3.1)
abbrev pub IpClaimsForm : Mode → List ℕ → IpClaims → Type 0
IpClaimsForm mode = Made claims_of (FamiliesForm IpClaimForm mode)

-- ---- as functions

-- the claims of both families
abbrev pub ip_claims_at : Parser IpClaims
ip_claims_at = made claims_of (families_at ip_claim_at)
