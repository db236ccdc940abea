-- A builder of a ROA that lends the addresses of a family.
use Rattle.std.specs.Prelude.{List}
use Rattle.std.specs.Borrow.{Lends, MutBor, Fml}
use Rattle.rpki_routes.specs.Roa.{Address, Roa}
use Rattle.rpki_routes.specs.contracts.roa.builder.RoaBuilder.{the_row}
use Rattle.rpki_routes.specs.contracts.roa.builder.addresses.RoaIpAddressesBuilder.{
  the_row as
      list_row,
}

-- The builder ends with the last addresses behind the reference as those of IPv4, and is else as it
-- was.
abbrev pub LendsV4 : MutBor Roa → MutBor (List Address) → Fml
LendsV4 builder lent =
    Lends the_row list_row builder lent (λ list. record builder.now { v4 = list })

-- The builder ends with the last addresses behind the reference as those of IPv6, and is else as it
-- was.
abbrev pub LendsV6 : MutBor Roa → MutBor (List Address) → Fml
LendsV6 builder lent =
    Lends the_row list_row builder lent (λ list. record builder.now { v6 = list })
