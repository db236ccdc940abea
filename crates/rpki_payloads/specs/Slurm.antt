-- Local exceptions over sets of payloads (RFC 8416, and draft-ietf-sidrops-aspa-slurm for ASPAs).
pub mod Said
pub mod Valid
use Rattle.std.specs.Prelude.{ℕ, ◌-◌, ◌/◌, ◌^◌, ◌==◌, ◌&&◌, ◌||◌, Bool, true, false, not, nat_le}
use Rattle.std.specs.Prelude.{List, [], ◌∷◌, Option, None, Some, min, unwrap_or, map}
use Rattle.std.specs.List.{list_any}
use Rattle.rpki_relying_party.specs.declared.payload.Origin.{Origin}
use Rattle.rpki_relying_party.specs.declared.payload.Provider.{Provider}
use Rattle.rpki_payloads.specs.declared.slurm.prefix.SlurmPrefix.{SlurmPrefix}
use Rattle.rpki_payloads.specs.declared.slurm.text.PrefixFilter.{PrefixFilter}
use Rattle.rpki_payloads.specs.declared.slurm.text.AspaFilter.{AspaFilter}
use Rattle.rpki_payloads.specs.declared.slurm.text.PrefixAssertion.{PrefixAssertion}
use Rattle.rpki_payloads.specs.declared.slurm.text.AspaAssertion.{AspaAssertion}
use Rattle.rpki_payloads.specs.declared.slurm.text.Exceptions.{Exceptions}

-- whether the value is there, and passes the test
abbrev pub some_passes : {X : Type 0} → (X → Bool) → Option X → Bool
some_passes test None = false
some_passes test (Some x) = test x

-- whether the value passes the test, where it is there
abbrev pub all_pass : {X : Type 0} → (X → Bool) → Option X → Bool
all_pass test None = true
all_pass test (Some x) = test x

-- ---- filters

-- the first bits of an address, as a number
abbrev pub front : ℕ → ℕ → ℕ
front addr len = addr / 2 ^ (128 - len)

-- whether the prefix of an origin is this one, or within it
abbrev pub covers : SlurmPrefix → Origin → Bool
covers p o = (p.family == o.family) && nat_le p.len o.len
    && (front p.addr p.len == front o.addr p.len)

-- whether a filter removes an origin: each of the prefix and the AS that it gives matches (RFC
-- 8416, section 3.3.1)
abbrev pub drops : PrefixFilter → Origin → Bool
drops f o = all_pass (λ p. covers p o) f.prefix && all_pass (λ n. n == o.asn) f.asn

-- whether a filter removes a provider: that of its customer
abbrev pub drops_customer : AspaFilter → Provider → Bool
drops_customer f p = f.customer_asn == p.customer

-- whether a filter of one of the files removes an origin
abbrev pub drops_origin : List Exceptions → Origin → Bool
drops_origin exceptions o = list_any (λ (s : Exceptions).
    list_any (λ f. drops f o) s.filters.prefix_filters.items) exceptions

-- whether a filter of one of the files removes a provider
abbrev pub drops_provider : List Exceptions → Provider → Bool
drops_provider exceptions p = list_any (λ (s : Exceptions).
    list_any (λ f. drops_customer f p) s.filters.aspa_filters.items) exceptions

-- ---- assertions

-- the origin that is asserted (RFC 8416, section 3.4.1): without a maximum length, that of the
-- prefix
abbrev pub asserted : PrefixAssertion → Origin
asserted a = record {
  family = a.prefix.family;
  addr = a.prefix.addr;
  len = a.prefix.len;
  max_len = unwrap_or a.max_len a.prefix.len;
  asn = a.asn;
}

-- this provider of a customer
abbrev pub provider_of : ℕ → ℕ → Provider
provider_of customer provider = record { customer = customer; provider = provider }

-- the providers of a customer that are asserted
abbrev pub asserted_providers : AspaAssertion → List Provider
asserted_providers a = map (provider_of a.customer_asn) a.provider_asns.items

-- ---- several files (RFC 8416, section 4.2)

-- whether an address is in both prefixes
abbrev pub meets : SlurmPrefix → SlurmPrefix → Bool
meets p q = (p.family == q.family)
    && (front p.addr (min p.len q.len) == front q.addr (min p.len q.len))

-- whether an address of a prefix is in one of the file
abbrev pub meets_any : SlurmPrefix → Exceptions → Bool
meets_any p s =
    list_any (λ f. some_passes (meets p) f.prefix) s.filters.prefix_filters.items
    || list_any (λ a. meets p a.prefix) s.assertions.prefix_assertions.items

-- whether an address is in prefixes of both files
abbrev pub prefixes_overlap : Exceptions → Exceptions → Bool
prefixes_overlap s t =
    list_any (λ f. some_passes (λ p. meets_any p t) f.prefix)
    s.filters.prefix_filters.items
    || list_any (λ a. meets_any a.prefix t) s.assertions.prefix_assertions.items

-- whether an AS has router keys in the file
abbrev pub has_router : ℕ → Exceptions → Bool
has_router n s =
    list_any (λ f. some_passes (λ m. n == m) f.asn) s.filters.bgpsec_filters.items
    || list_any (λ a. n == a.asn) s.assertions.bgpsec_assertions.items

-- whether an AS has router keys in both files
abbrev pub routers_overlap : Exceptions → Exceptions → Bool
routers_overlap s t =
    list_any (λ f. some_passes (λ n. has_router n t) f.asn)
    s.filters.bgpsec_filters.items
    || list_any (λ a. has_router a.asn t) s.assertions.bgpsec_assertions.items

-- whether an AS is a customer in the file
abbrev pub has_customer : ℕ → Exceptions → Bool
has_customer n s =
    list_any (λ f. n == f.customer_asn) s.filters.aspa_filters.items
    || list_any (λ a. n == a.customer_asn) s.assertions.aspa_assertions.items

-- whether an AS is a customer in both files
abbrev pub customers_overlap : Exceptions → Exceptions → Bool
customers_overlap s t =
    list_any (λ f. has_customer f.customer_asn t) s.filters.aspa_filters.items
    || list_any (λ a. has_customer a.customer_asn t)
    s.assertions.aspa_assertions.items

-- whether two files overlap
abbrev pub overlap : Exceptions → Exceptions → Bool
overlap s t = prefixes_overlap s t || routers_overlap s t || customers_overlap s t

-- whether no two of the files overlap
abbrev pub are_apart : List Exceptions → Bool
are_apart [] = true
are_apart (s ∷ ss) = not (list_any (overlap s) ss) && are_apart ss
