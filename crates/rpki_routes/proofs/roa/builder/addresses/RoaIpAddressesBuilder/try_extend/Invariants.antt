use Rattle.std.proofs.Common.{◌≡◌}
use Rattle.rpki_routes.proofs.roa.builder.addresses.RoaIpAddressesBuilder.try_extend.Given as goal

abbrev pub invariant-loop-addr : goal.invariant-loop-addr
invariant-loop-addr g l = l.added.items ≡ l.yielded
