-- The orders in which payloads and refusals stand.
use Rattle.std.specs.Ordering.{nat_cmp, on, ordering_then}
use Rattle.std.specs.Cmp.Lexicographic.{slice_cmp}
use Rattle.std.specs.String.{string_bytes}
use Rattle.std.specs.declared.alloc.Global.{Global}
use Rattle.std.specs.declared.cmp.Ordering.{Ordering}
use Rattle.std.specs.declared.string.String.{String}
use Rattle.rpki_relying_party.specs.declared.payload.Origin.{Origin}
use Rattle.rpki_relying_party.specs.declared.payload.Provider.{Provider}

-- the order of origins: by prefix, then by AS
abbrev pub origin_order : Origin → Origin → Ordering
origin_order a b =
    ordering_then (nat_cmp a.family b.family) (ordering_then (nat_cmp a.addr b.addr)
    (ordering_then (nat_cmp a.len b.len) (ordering_then (nat_cmp a.max_len b.max_len)
    (nat_cmp a.asn b.asn))))

-- the order of providers: by customer
abbrev pub provider_order : Provider → Provider → Ordering
provider_order a b =
    ordering_then (nat_cmp a.customer b.customer) (nat_cmp a.provider b.provider)

-- the order of lines: by their octets
abbrev pub line_order : String Global → String Global → Ordering
line_order = on string_bytes (slice_cmp nat_cmp)
