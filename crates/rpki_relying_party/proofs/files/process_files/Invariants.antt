-- The files that are still to be read.
use Rattle.std.proofs.Common.{length}
use Rattle.rpki_files.specs.Manifest.Uris.{uris_of}
use Rattle.rpki_relying_party.specs.Passes.{setting}
use Rattle.rpki_relying_party.proofs.Filing.{IsTelling}
use Rattle.rpki_relying_party.proofs.files.process_files.Given as goal

-- what those that are left tell and cost goes on what was told and spent so far
abbrev pub invariant-loop-item : goal.invariant-loop-item
invariant-loop-item g l =
    IsTelling (setting g.R.Repository.finds g.C.Crypto.digest_of g.C.Crypto.is_signed l.pass)
    l.above.ca.now l.above.list.now.uri l.above.list.now.crl.list l.above.until
    l.above.manifest.now (uris_of l.folder l.manifest.files) l.files l.fn.findings.said.items
    l.findings.said.items l.fn.findings.children.items l.findings.children.items l.fn.room l.room

abbrev pub decreases-loop-item : goal.decreases-loop-item
decreases-loop-item g l = length l.files
