-- The octets that an ASPA content is written as.
use Rattle.std.specs.Prelude.{ℕ, List, ◌++◌}
use Rattle.std.specs.List.{flat_map}
use Rattle.rpki_der.specs.Tags.{SEQUENCE, context}
use Rattle.rpki_der.specs.Write.Written.{value_octets, number_octets}
use Rattle.rpki_routes.specs.Aspa.{Aspa}

-- the version
abbrev pub version_octets : List ℕ
version_octets = value_octets (context 0) (number_octets 1)

-- the providers, one after the other
abbrev pub providers_octets : List ℕ → List ℕ
providers_octets providers = flat_map number_octets providers

-- the version, the customer and the providers
abbrev pub aspa_contents : Aspa → List ℕ
aspa_contents a = version_octets
    ++ (number_octets a.customer ++ value_octets SEQUENCE (providers_octets a.providers))

-- the content as it is written
abbrev pub aspa_octets : Aspa → List ℕ
aspa_octets a = value_octets SEQUENCE (aspa_contents a)
