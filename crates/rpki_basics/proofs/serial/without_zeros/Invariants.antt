use Rattle.std.proofs.Common.{◌≡◌, length}
use Rattle.rpki_der.specs.Write.Written.{significant}
use Rattle.rpki_basics.proofs.serial.without_zeros.Given as goal

abbrev pub invariant-rest : goal.invariant-rest
invariant-rest l = significant l.rest ≡ significant l.digits

abbrev pub decreases-rest : goal.decreases-rest
decreases-rest l = length l.rest
