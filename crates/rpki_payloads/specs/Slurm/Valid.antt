-- What local exceptions may say (RFC 8416, section 3): each file that says something else is
-- refused.
use Rattle.std.specs.Prelude.{ℕ, ◌==◌, ◌&&◌, ◌||◌, Bool, not, nat_le, if◌then◌else◌, is_some}
use Rattle.std.specs.Prelude.{length}
use Rattle.std.specs.List.{list_all}
use Rattle.rpki_payloads.specs.Slurm.{all_pass}
use Rattle.rpki_payloads.specs.declared.slurm.text.AspaAssertion.{AspaAssertion}
use Rattle.rpki_payloads.specs.declared.slurm.text.Exceptions.{Exceptions}
use Rattle.rpki_payloads.specs.declared.slurm.text.PrefixAssertion.{PrefixAssertion}
use Rattle.rpki_payloads.specs.declared.slurm.text.PrefixFilter.{PrefixFilter}
use Rattle.rpki_payloads.specs.declared.slurm.text.RouterKeyFilter.{RouterKeyFilter}

-- how many bits an address of the family with this number has
abbrev pub most_bits : ℕ → ℕ
most_bits family = if family == 1 then 32 else 128

-- Whether the version is 2, or 1 where there are no ASPAs. That a file of version 1 may have lists
-- of ASPAs that are empty is this project's own rule.
abbrev pub has_version : Exceptions → Bool
has_version file = (file.version == 2) || (file.version == 1)
    && (length file.filters.aspa_filters.items == 0)
    && (length file.assertions.aspa_assertions.items == 0)

-- whether a filter of origins has a prefix, an AS, or both (section 3.3.1)
abbrev pub filters_origins : PrefixFilter → Bool
filters_origins f = is_some f.prefix || is_some f.asn

-- whether a filter of router keys has an AS, a key, or both (section 3.3.2)
abbrev pub filters_keys : RouterKeyFilter → Bool
filters_keys f = is_some f.asn || is_some f.key

-- whether the maximum length of an assertion, if it has one, is at least the length of its prefix
-- and at most that of an address of its family (RFC 9582, section 4.3)
abbrev pub has_max_len : PrefixAssertion → Bool
has_max_len a = all_pass
    (λ max. nat_le a.prefix.len max && nat_le max (most_bits a.prefix.family)) a.max_len

-- whether a customer has a provider, which is this project's own rule
abbrev pub has_provider : AspaAssertion → Bool
has_provider a = not (length a.provider_asns.items == 0)

-- whether a file may say these exceptions
abbrev pub are_valid : Exceptions → Bool
are_valid file = has_version file
    && list_all filters_origins file.filters.prefix_filters.items
    && list_all filters_keys file.filters.bgpsec_filters.items
    && list_all has_max_len file.assertions.prefix_assertions.items
    && list_all has_provider file.assertions.aspa_assertions.items
