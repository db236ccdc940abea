-- What is built of a customer and its providers.
use Rattle.std.proofs.Common.{◌≡◌, ℕ, ◌^◌, ◌<◌, List, length, All, Some, arith}
use Rattle.std.specs.List.Sorted.{IsStrictlyIncreasing}
use Rattle.rpki_basics.specs.declared.build.BuildFault.{BuildFault}
use Rattle.rpki_basics.specs.declared.limits.ProviderLimit.{ProviderLimit}
use Rattle.rpki_der.specs.declared.mode.Mode.TheVariants.{Der}
use Rattle.rpki_der.specs.Read.Parse.{all_of, u32_at}
use Rattle.rpki_der.specs.Write.Written.{number_octets}
use Rattle.rpki_der.proofs.Form.Kinds.{u32-part}
use Rattle.rpki_der.proofs.Writing.Values.{number-in}
use Rattle.rpki_faults.specs.Checks.{AllHold, IsFirstFault}
use Rattle.rpki_faults.proofs.Order.{first-fails}
use Rattle.rpki_resources.specs.As.{IsAsn}
use Rattle.rpki_routes.specs.Aspa.{Aspa, IsAttestation, IsProviderSet}
use Rattle.rpki_routes.specs.Aspa.Built.{aspa_checks}
use Rattle.rpki_routes.specs.Aspa.Form.{AspaForm}
use Rattle.rpki_routes.specs.Aspa.Written.{providers_octets}
use Rattle.rpki_routes.proofs.Attestations.Written.{most-wide, length-providers_octets}
use Rattle.rpki_lists.proofs.Listed.{entries-read}

-- what passes the checks is an attestation
pub attested : (limit : ProviderLimit) (a : Aspa) → IsStrictlyIncreasing a.providers
    → IsAsn a.customer → All IsAsn a.providers → AllHold (aspa_checks limit a)
    → IsAttestation limit a
attested limit a up number numbers h = record {
  not_zero = h.0;
  number = number;
  providers = record {
    some = h.1.0;
    most = h.1.1.0;
    ascending = up;
    alone = h.1.1.1.1.0;
    numbers = numbers;
  };
  others = h.1.1.1.0;
}

-- an attestation passes the checks
pub passes : (limit : ProviderLimit) (a : Aspa) → IsAttestation limit a
    → AllHold (aspa_checks limit a)
passes limit a h = (
  h.not_zero,
  (h.providers.some, (h.providers.most, (h.others, (h.providers.alone, tt)))),
)

-- what does not pass them is said by no content
pub not-said : (limit : ProviderLimit) (a : Aspa) (fault : BuildFault)
    → IsFirstFault (aspa_checks limit a) fault → (octets : List ℕ) → AspaForm limit octets a → ⊥
not-said limit a fault h octets form =
    first-fails (aspa_checks limit a) fault h (passes limit a form.1)

-- providers that are written are read
pub providers-read : (ps : List ℕ) → All IsAsn ps
    → all_of u32_at Der (providers_octets ps) ≡ Some ps
providers-read ps h = entries-read u32-part number_octets ps (λ i d l. number-in Der _ (h i d l))

-- the octets of providers are few
pub few-octets : (limit : ProviderLimit) (ps : List ℕ) → IsProviderSet limit ps
    → length (providers_octets ps) < 2 ^ 64
few-octets limit ps h =
    omega (arith, most-wide limit, h.most, length-providers_octets ps)
