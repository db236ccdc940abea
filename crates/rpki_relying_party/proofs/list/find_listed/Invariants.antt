-- The files that are still to be looked at.
use Rattle.std.proofs.Common.{length}
use Rattle.rpki_files.specs.Manifest.Uris.{uris_of}
use Rattle.rpki_relying_party.proofs.Crls.{AreOthers}
use Rattle.rpki_relying_party.proofs.list.find_listed.Given as goal

-- none of the others has the URI
abbrev pub invariant-loop-file : goal.invariant-loop-file
invariant-loop-file l =
    AreOthers l.uri (uris_of l.folder l.manifest.files) (uris_of l.folder l.files)

abbrev pub decreases-loop-file : goal.decreases-loop-file
decreases-loop-file l = length l.files
