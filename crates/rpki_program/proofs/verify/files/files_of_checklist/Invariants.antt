use Rattle.std.proofs.Common.{◌≡◌, ◌++◌, map}
use Rattle.rpki_program.specs.Verify.Files.{checked, named_of}
use Rattle.rpki_program.proofs.verify.files.files_of_checklist.Given as goal

-- the files so far, and those that are still to come
abbrev pub invariant-loop-file : goal.invariant-loop-file
invariant-loop-file l =
    map named_of l.wanted.items ++ map (λ f. (f.file_name, f.hash)) l.file-iterator
    ≡ checked l.checklist
