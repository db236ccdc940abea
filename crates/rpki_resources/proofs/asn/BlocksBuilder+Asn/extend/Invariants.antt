use Rattle.std.proofs.Common.{◌≡◌, map}
use Rattle.rpki_resources.specs.As.{as_range}
use Rattle.rpki_resources.proofs.asn.BlocksBuilder+Asn.extend.Given as goal

abbrev pub invariant-loop-block : goal.invariant-loop-block
invariant-loop-block g l = l.added.items ≡ map as_range l.yielded
