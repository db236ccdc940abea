use Rattle.std.proofs.Common.{map}
use Rattle.rpki_files.specs.Checklist.Files.{Checked}
use Rattle.rpki_check.specs.Files.{checked_files}
use Rattle.rpki_check.proofs.Tables.{IsPart}
use Rattle.rpki_check.proofs.files.checked_files.Given as goal

-- the files so far, and those that are still to come
abbrev pub invariant-loop-file : goal.invariant-loop-file
invariant-loop-file l =
    IsPart l.table (map (λ (f : Checked). (f.file_name, f.hash)) l.file-iterator)
    (checked_files l.checklist)
