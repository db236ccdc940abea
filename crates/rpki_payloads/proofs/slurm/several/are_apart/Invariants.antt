use Rattle.std.proofs.Common.{◌≡◌, drop}
use Rattle.rpki_payloads.specs.Slurm.{are_apart}
use Rattle.rpki_payloads.proofs.slurm.several.are_apart.Given as goal

abbrev pub invariant-loop-i : goal.invariant-loop-i
invariant-loop-i l = are_apart (drop l.i l.exceptions) ≡ are_apart l.exceptions
