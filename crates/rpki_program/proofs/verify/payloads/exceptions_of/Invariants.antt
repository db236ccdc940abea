use Rattle.std.proofs.Common.{take}
use Rattle.std.specs.List.{AllZip}
use Rattle.rpki_payloads.specs.Slurm.Said.{IsExceptionsText}
use Rattle.rpki_program.proofs.verify.payloads.exceptions_of.Given as goal

-- the exceptions in the files so far
abbrev pub invariant-loop-i : goal.invariant-loop-i
invariant-loop-i g l = AllZip IsExceptionsText (take l.i l.files.items) l.exceptions.items
