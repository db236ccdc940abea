use Rattle.rpki_basics.proofs.Uris.Octets.{uri-utf8}
use Rattle.rpki_basics.proofs.uri.ascii.Goals as goal

pub unreachable-requires : goal.unreachable-requires
unreachable-requires c =
    (rw c.in-Err.is at c.from_utf8.ensures.cases).0 (uri-utf8 c.args.octets.now c.requires)
