use Rattle.std.proofs.Common.{rules, codes}
use Rattle.std.proofs.lemmas.Bool.{both_ways}
use Rattle.rpki_basics.specs.Uri.{Follows, AreHttpsSegments}
use Rattle.rpki_basics.proofs.Uris.Tests.{uri-bad}
use Rattle.rpki_basics.proofs.uri.Https.from_bytes.Goals as goal

pub returns-else-goes_on_as_https : goal.returns-else-goes_on_as_https
returns-else-goes_on_as_https c =
    let f : Follows (codes "https") c.args.text c.in-Some.rest.now =
    rw c.as_slice-octets.ensures at c.in-Some.ensures in (
      search rules,
      (c.in-Some.rest.now, f),
      uri-bad (codes "https") AreHttpsSegments c.args.text c.in-Some.rest.now f
          (λ g. both_ways _ c.if-goes_on_as_https.false (c.goes_on_as_https.ensures.1 g)),
    )
