-- The lines of an ASPA content.
use Rattle.std.specs.Prelude.{ℕ, List, ◌++◌, codes}
use Rattle.std.specs.List.{flat_map}
use Rattle.rpki_resources.specs.As.{asn_text}
use Rattle.rpki_routes.specs.Aspa.{Aspa}

-- the line of a customer
abbrev pub customer_line : ℕ → List ℕ
customer_line n = codes "customer " ++ (asn_text n ++ codes "\n")

-- the line of a provider
abbrev pub provider_line : ℕ → List ℕ
provider_line n = codes "provider " ++ (asn_text n ++ codes "\n")

-- the name of the kind, the customer, and a line for each provider
abbrev pub aspa_text : Aspa → List ℕ
aspa_text a = codes "aspa\n" ++ (customer_line a.customer ++ flat_map provider_line a.providers)
