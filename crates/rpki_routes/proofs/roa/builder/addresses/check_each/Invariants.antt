use Rattle.std.proofs.Common.{ℕ, ◌<◌, get_or}
use Rattle.rpki_routes.specs.Roa.{Address, IsAddress}
use Rattle.rpki_routes.proofs.roa.builder.addresses.check_each.Given as goal

abbrev pub invariant-loop-addr : goal.invariant-loop-addr
invariant-loop-addr l = (k : ℕ) (d : Address) → k < l.addr-index
    → IsAddress l.family (get_or l.addrs k d)
