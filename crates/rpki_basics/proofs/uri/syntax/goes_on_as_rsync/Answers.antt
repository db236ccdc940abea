use Rattle.rpki_basics.specs.Uri.{AreRsyncSegments}
use Rattle.rpki_basics.specs.Uri.Tests.{are_rsync_segments}
use Rattle.rpki_basics.proofs.Uris.Tests.{goes-on, rsync-true, rsync-is}
use Rattle.rpki_basics.proofs.uri.syntax.goes_on_as_rsync.Goals as goal

pub returns-in-Some : goal.returns-in-Some
returns-in-Some c = goes-on AreRsyncSegments are_rsync_segments rsync-true rsync-is c.args.text.now
    c.in-Some.rest.now c.is_rsync.result c.in-Some.ensures c.is_rsync.ensures
