use Rattle.std.proofs.Common.{◌-◌, length}
use Rattle.rpki_der.specs.Read.Parse.{octets_at}
use Rattle.rpki_der.proofs.Reading.Strings.{PutSoFar}
use Rattle.rpki_der.proofs.read.string.+append_octets.Given as goal

abbrev pub decreases-append_octets : goal.decreases-append_octets
decreases-append_octets l = l.depth

abbrev pub invariant-loop-rest : goal.invariant-loop-rest
invariant-loop-rest l =
    PutSoFar (octets_at (l.depth - 1)) l.mode l.initial.out.items l.out.items l.initial.rest l.rest

abbrev pub decreases-loop-rest : goal.decreases-loop-rest
decreases-loop-rest l = length l.rest
