-- Payloads as sets of OpenBGPD's bgpd.conf.
use Rattle.std.specs.Prelude.{ℕ, List, [], ◌++◌, ◌==◌, length, codes, decimal, if◌then◌else◌}
use Rattle.std.specs.List.{flat_map}
use Rattle.rpki_payloads.specs.Formats.Fields.{end_seconds, expires_words, max_words}
use Rattle.rpki_payloads.specs.Formats.Groups.{customer_of, expires_of}
use Rattle.rpki_payloads.specs.Formats.Row.{OriginRow, ProviderRow}
use Rattle.rpki_payloads.specs.Texts.Origin.{prefix_of}

-- the line of an origin, as `192.0.2.0/24 maxlen 26 source-as 64496 expires 1798761600`
abbrev pub roa_line : OriginRow → List ℕ
roa_line r = codes "\t" ++ (prefix_of r.origin ++ (max_words r.origin.len r.origin.max_len
    ++ (codes " source-as " ++ (decimal r.origin.asn
    ++ (expires_words (end_seconds r.until) ++ codes "\n")))))

-- the set of origins
unfoldable pub roa_set : List OriginRow → List ℕ
roa_set rows = codes "roa-set {\n" ++ (flat_map roa_line rows ++ codes "}\n")

-- a provider, after a space
abbrev pub number_word : ProviderRow → List ℕ
number_word r = codes " " ++ decimal r.provider.provider

-- how the line of a customer begins
abbrev pub customer_words : List ProviderRow → List ℕ
customer_words g = codes "\tcustomer-as " ++ (decimal (customer_of g)
    ++ (expires_words (expires_of g) ++ codes " provider-as {"))

-- the line of a customer with its providers, as `customer-as 64496 expires 1798761600 provider-as {
-- 64497 64511 }`
abbrev pub aspa_set_line : List ProviderRow → List ℕ
aspa_set_line g = customer_words g ++ (flat_map number_word g ++ codes " }\n")

-- the set of customers with their providers
unfoldable pub some_aspas : List (List ProviderRow) → List ℕ
some_aspas groups = codes "aspa-set {\n" ++ (flat_map aspa_set_line groups ++ codes "}\n")

-- the same, if there is a customer
abbrev pub aspa_set : List (List ProviderRow) → List ℕ
aspa_set groups = if length groups == 0 then [] else some_aspas groups

-- both sets
abbrev pub openbgpd_text : List OriginRow → List (List ProviderRow) → List ℕ
openbgpd_text origins groups = roa_set origins ++ aspa_set groups
