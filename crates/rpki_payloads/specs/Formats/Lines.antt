-- The lines of payloads.
use Rattle.std.specs.Prelude.{ℕ, List, ◌++◌, codes}
use Rattle.std.specs.List.{flat_map}
use Rattle.rpki_resources.specs.As.{asn_text}
use Rattle.rpki_resources.specs.Text.{with_max_len}
use Rattle.rpki_payloads.specs.Formats.Fields.{long_words}
use Rattle.rpki_payloads.specs.Formats.Groups.{customer_of}
use Rattle.rpki_payloads.specs.Formats.Row.{OriginRow, ProviderRow}
use Rattle.rpki_payloads.specs.Texts.Origin.{prefix_of, longer_than}

-- an origin, as `origin AS64496 192.0.2.0/24-26`; without the maximum length where it is that of
-- the prefix
abbrev pub origin_words : OriginRow → List ℕ
origin_words r = codes "origin " ++ (asn_text r.origin.asn ++ (codes " "
    ++ with_max_len (prefix_of r.origin) (longer_than r.origin.len r.origin.max_len)))

-- the line of an origin
abbrev pub origin_line : OriginRow → List ℕ
origin_line r = origin_words r ++ codes "\n"

-- a provider, after a space
abbrev pub provider_word : ProviderRow → List ℕ
provider_word r = codes " " ++ asn_text r.provider.provider

-- the line of a customer with its providers, as `aspa AS64496 AS64497 AS64511`
abbrev pub aspa_line : List ProviderRow → List ℕ
aspa_line g = codes "aspa " ++ (asn_text (customer_of g) ++ (flat_map provider_word g
    ++ codes "\n"))

-- a line for each origin, and then for each customer
abbrev pub lines_text : List OriginRow → List (List ProviderRow) → List ℕ
lines_text origins groups = flat_map origin_line origins ++ flat_map aspa_line groups

-- the line of an origin, with until when it holds and which object says it
abbrev pub long_origin : OriginRow → List ℕ
long_origin r = origin_words r ++ (codes " " ++ (long_words r.until r.object ++ codes "\n"))

-- the line of a provider, with the same
abbrev pub long_provider : ProviderRow → List ℕ
long_provider r = codes "aspa " ++ (asn_text r.provider.customer ++ (provider_word r
    ++ (codes " " ++ (long_words r.until r.object ++ codes "\n"))))

-- a line for each origin, and then for each provider
abbrev pub long_text : List OriginRow → List ProviderRow → List ℕ
long_text origins providers = flat_map long_origin origins ++ flat_map long_provider providers
