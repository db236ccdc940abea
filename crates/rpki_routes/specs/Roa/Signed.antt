-- ROAs that are built and signed. The sections are those of RFC 9582.
use Rattle.std.specs.Prelude.{◌≡◌, ℕ, List, [], ◌∷◌, ◌++◌, ◌<◌, ◌^◌, length}
use Rattle.rpki_basics.specs.declared.build.BuildFault.{BuildFault}
use Rattle.rpki_basics.specs.declared.build.BuildFault.TheVariants as fault
use Rattle.rpki_basics.specs.declared.signing.SigningError.{SigningError}
use Rattle.rpki_faults.specs.Checks.{Check, ◌unless◌}
use Rattle.rpki_sigobj.specs.Object.{SignedData}
use Rattle.rpki_signing.specs.Built.{Settings, IsBuilt, IsNotBuilt}
use Rattle.rpki_routes.specs.Roa.{Roa, IsRoa}
use Rattle.rpki_routes.specs.Roa.Built.{IsClaimOf, roa_checks}
use Rattle.rpki_routes.specs.Roa.Checks.{route_origin_authz}
use Rattle.rpki_routes.specs.Roa.Written.{roa_contents, roa_octets}
use Rattle.rpki_signing.specs.Content.{IsNotSigned}

-- There is an address (4.3).
abbrev pub HasAddress : Roa → Type 0
HasAddress r = ¬ ((r.v4 ≡ []) × (r.v6 ≡ []))

-- what is asked of a ROA that is signed: what is asked of its content, and that it has an address
abbrev pub signed_checks : Roa → List (Check BuildFault)
signed_checks r = roa_checks r ++ (fault.EmptyRoa unless HasAddress r) ∷ []

-- What a builder of signed objects is told of a ROA, where it was handed in with other settings: it
-- claims the addresses of the prefixes, by family, and is else as it was handed in.
pub record ClaimsPrefixes (r : Roa) (handed told : Settings) : Type 0 where
  pub v4 : IsClaimOf r.v4 told.v4
  pub v6 : IsClaimOf r.v6 told.v6
  pub others : told ≡ record handed { v4 = told.v4; v6 = told.v6 }

-- The signed object of a ROA: a ROA with an address, and the object of its type and of its octets
-- that is built as the builder, which was handed in with these settings, was told in the end.
pub record IsBuiltRoa (r : Roa) (handed : Settings) (issuer digest : List ℕ) (s : SignedData)
    : Type 0 where
  pub said : IsRoa r
  pub some : HasAddress r
  pub told : Settings
  pub claims : ClaimsPrefixes r handed told
  pub built : IsBuilt told issuer route_origin_authz (roa_octets r) digest s

-- Why the object of a ROA is not built, once the builder was told what is claimed.
abbrev pub IsNotBuiltTold : {E : Type 0} → (List ℕ → List ℕ → List ℕ → Type 0)
    → (List ℕ → Type 0) → Roa → Settings → List ℕ → List ℕ → SigningError E → Type 0
IsNotBuiltTold may once r handed issuer digest e =
    (told : Settings) × ClaimsPrefixes r handed told
    × IsNotBuilt may once told issuer route_origin_authz (roa_octets r) digest e

-- Why a ROA is not built and signed: what is asked of it does not hold; its SEQUENCE would have
-- contents of 2^32 octets or more; or its object is not built.
abbrev pub IsNotBuiltRoa : {E : Type 0} → (List ℕ → List ℕ → List ℕ → Type 0)
    → (List ℕ → Type 0) → Roa → Settings → List ℕ → List ℕ → SigningError E → Type 0
IsNotBuiltRoa may once r handed issuer digest =
    IsNotSigned (signed_checks r) (¬ (length (roa_contents r) < 2 ^ 32))
    (IsNotBuiltTold may once r handed issuer digest)
