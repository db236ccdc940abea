use Rattle.std.proofs.Common.{length}
use Rattle.rpki_files.specs.Manifest.Files.{name_of}
use Rattle.rpki_files.proofs.Manifests.Distinct.{SeenSoFar}
use Rattle.rpki_files.proofs.manifest.files.are_distinct.Given as goal

abbrev pub invariant-loop-file : goal.invariant-loop-file
invariant-loop-file l = SeenSoFar name_of l.fn.files l.seen l.files

abbrev pub decreases-loop-file : goal.decreases-loop-file
decreases-loop-file l = length l.files
