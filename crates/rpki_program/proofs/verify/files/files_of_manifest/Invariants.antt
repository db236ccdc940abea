use Rattle.std.proofs.Common.{◌≡◌, ◌++◌, Some, map}
use Rattle.rpki_program.specs.Verify.Files.{listed, named_of}
use Rattle.rpki_program.proofs.verify.files.files_of_manifest.Given as goal

-- the files so far, and those that are still to come
abbrev pub invariant-loop-file : goal.invariant-loop-file
invariant-loop-file l =
    map named_of l.wanted.items ++ map (λ f. (Some f.file, f.hash)) l.file-iterator ≡ listed l.manifest
