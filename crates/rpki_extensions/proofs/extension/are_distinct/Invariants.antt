use Rattle.rpki_extensions.specs.Extension.{oid_of}
use Rattle.rpki_extensions.proofs.CertExtensions.Seen.{SeenSoFar}
use Rattle.rpki_extensions.proofs.extension.are_distinct.Given as goal

abbrev pub invariant-loop-extension : goal.invariant-loop-extension
invariant-loop-extension l = SeenSoFar oid_of l.seen l.list l.extension-index
