use Rattle.std.proofs.Common.{◌≡◌, length}
use Rattle.rpki_files.specs.Manifest.Files.{File}
use Rattle.rpki_examples.proofs.Search.{LeftTo}
use Rattle.rpki_examples.proofs.files.names_file.Given as goal

abbrev pub invariant-loop-file : goal.invariant-loop-file
invariant-loop-file l =
    LeftTo (λ (f : File). f ≡ record { file = l.fn.name; hash = l.fn.hash })
    l.fn.manifest.files l.files

abbrev pub decreases-loop-file : goal.decreases-loop-file
decreases-loop-file l = length l.files
