-- Building and signing an ASPA. The sections are those of draft-ietf-sidrops-aspa-profile-15.
use Rattle.std.specs.Prelude.{ℕ, List, [], ◌∷◌}
use Rattle.rpki_basics.specs.declared.limits.ProviderLimit.{ProviderLimit}
use Rattle.rpki_basics.specs.declared.signing.SigningError.{SigningError}
use Rattle.rpki_resources.specs.declared.resources.Claim.TheVariants.{Missing, Explicit}
use Rattle.rpki_resources.specs.As.Form.{only}
use Rattle.rpki_sigobj.specs.Object.{SignedData}
use Rattle.rpki_signing.specs.Built.{Settings, IsBuilt, IsNotBuilt}
use Rattle.rpki_routes.specs.Aspa.{Aspa, IsAttestation}
use Rattle.rpki_routes.specs.Aspa.Built.{aspa_checks}
use Rattle.rpki_routes.specs.Aspa.Checks.{ct_aspa}
use Rattle.rpki_routes.specs.Aspa.Written.{aspa_octets}
use Rattle.rpki_signing.specs.Content.{IsNotSigned}

-- the caller's settings for the object, but with a certificate that claims the customer and nothing
-- else (4)
abbrev pub claiming : Aspa → Settings → Settings
claiming a handed = record handed {
  as_numbers = Explicit (only a.customer ∷ []);
  v4 = Missing;
  v6 = Missing;
}

-- The signed object of an ASPA: the ASPA is valid within the limit, and the object has its type,
-- its octets, and a certificate that claims the customer.
pub record IsBuiltAspa (limit : ProviderLimit) (a : Aspa) (handed : Settings)
    (issuer digest : List ℕ) (s : SignedData) : Type 0 where
  pub said : IsAttestation limit a
  pub built : IsBuilt (claiming a handed) issuer ct_aspa (aspa_octets a) digest s

-- Why an ASPA is not signed: a check of the ASPA fails, or the signed object cannot be built.
abbrev pub IsNotBuiltAspa : {E : Type 0} → (List ℕ → List ℕ → List ℕ → Type 0)
    → (List ℕ → Type 0) → ProviderLimit → Aspa → Settings → List ℕ → List ℕ → SigningError E
    → Type 0
IsNotBuiltAspa may once limit a handed issuer digest =
    IsNotSigned (aspa_checks limit a) ⊥
    (IsNotBuilt may once (claiming a handed) issuer ct_aspa (aspa_octets a) digest)
