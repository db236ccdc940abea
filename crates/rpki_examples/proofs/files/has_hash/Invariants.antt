use Rattle.std.proofs.Common.{◌≡◌, length}
use Rattle.rpki_files.specs.Checklist.Files.{Checked}
use Rattle.rpki_examples.proofs.Search.{LeftTo}
use Rattle.rpki_examples.proofs.files.has_hash.Given as goal

abbrev pub invariant-loop-file : goal.invariant-loop-file
invariant-loop-file l =
    LeftTo (λ (f : Checked). f.hash ≡ l.fn.hash) l.fn.checklist.files l.files

abbrev pub decreases-loop-file : goal.decreases-loop-file
decreases-loop-file l = length l.files
