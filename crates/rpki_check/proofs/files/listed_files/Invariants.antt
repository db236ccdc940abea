use Rattle.std.proofs.Common.{Some, map}
use Rattle.rpki_files.specs.Manifest.Files.{File}
use Rattle.rpki_check.specs.Files.{listed_files}
use Rattle.rpki_check.proofs.Tables.{IsPart}
use Rattle.rpki_check.proofs.files.listed_files.Given as goal

-- the files so far, and those that are still to come
abbrev pub invariant-loop-file : goal.invariant-loop-file
invariant-loop-file l =
    IsPart l.table (map (λ (f : File). (Some f.file, f.hash)) l.file-iterator)
    (listed_files l.manifest)
