use Rattle.std.proofs.Common.{rules, codes}
use Rattle.std.proofs.lemmas.Bool.{both_ways}
use Rattle.rpki_basics.specs.Uri.{Follows, AreRsyncSegments}
use Rattle.rpki_basics.proofs.Uris.Tests.{uri-bad}
use Rattle.rpki_basics.proofs.uri.Rsync.from_bytes.Goals as goal

pub returns-else-goes_on_as_rsync : goal.returns-else-goes_on_as_rsync
returns-else-goes_on_as_rsync c =
    let f : Follows (codes "rsync") c.args.text c.in-Some.rest.now =
    rw c.as_slice-octets.ensures at c.in-Some.ensures in (
      search rules,
      (c.in-Some.rest.now, f),
      uri-bad (codes "rsync") AreRsyncSegments c.args.text c.in-Some.rest.now f
          (λ g. both_ways _ c.if-goes_on_as_rsync.false (c.goes_on_as_rsync.ensures.1 g)),
    )
