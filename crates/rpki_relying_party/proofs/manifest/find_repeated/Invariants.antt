-- The files that are still to be looked at.
use Rattle.std.proofs.Common.{length}
use Rattle.rpki_relying_party.proofs.Repeating.{AreNew}
use Rattle.rpki_relying_party.proofs.manifest.find_repeated.Given as goal

-- no two of the others have one name
abbrev pub invariant-loop-file : goal.invariant-loop-file
invariant-loop-file l = AreNew l.names l.manifest.files l.files

abbrev pub decreases-loop-file : goal.decreases-loop-file
decreases-loop-file l = length l.files
