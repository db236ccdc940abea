use Rattle.std.proofs.Common.{◌≡◌, take}
use Rattle.rpki_routes.specs.Roa.Built.{ranges_of}
use Rattle.rpki_routes.proofs.roa.builder.addresses.claim_of_each.Given as goal

abbrev pub invariant-loop-addr : goal.invariant-loop-addr
invariant-loop-addr l = l.blocks ≡ ranges_of (take l.addr-index l.addrs)
