use Rattle.std.proofs.Common.{◌+◌, length}
use Rattle.rpki_program.proofs.verify.check.hint.first_outside.Given as goal

abbrev pub decreases-loop-block : goal.decreases-loop-block
decreases-loop-block g l = length l.held + length l.claimed
