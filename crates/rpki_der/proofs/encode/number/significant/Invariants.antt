use Rattle.std.proofs.Common.{◌≡◌, length}
use Rattle.rpki_der.specs.Write.Written.{significant}
use Rattle.rpki_der.proofs.encode.number.significant.Given as goal

abbrev pub invariant-loop-rest : goal.invariant-loop-rest
invariant-loop-rest l = significant l.rest ≡ significant l.digits

abbrev pub decreases-loop-rest : goal.decreases-loop-rest
decreases-loop-rest l = length l.rest
