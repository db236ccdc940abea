use Rattle.std.proofs.Common.{◌≡◌, map}
use Rattle.rpki_resources.specs.Ip.{ip_range}
use Rattle.rpki_resources.proofs.ip.BlocksBuilder+Addr.extend.Given as goal

abbrev pub invariant-loop-block : goal.invariant-loop-block
invariant-loop-block g l = l.added.items ≡ map ip_range l.yielded
