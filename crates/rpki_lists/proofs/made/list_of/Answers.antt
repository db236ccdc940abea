use Rattle.rpki_lists.proofs.Listed.{found-held, held-found}
use Rattle.rpki_lists.proofs.made.list_of.Goals as goal

pub unreachable-requires : goal.unreachable-requires
unreachable-requires g c =
    held-found g.K.EntryKind.entry_at c.args.octets.items c.in_ok-octets.octets
    c.in_ok-octets.ensures.ok c.requires c.in-None.ensures

pub returns : goal.returns
returns g c =
    found-held g.K.EntryKind.entry_at c.args.octets.items c.in_ok-octets.octets c.in-Some.list
    c.in_ok-octets.ensures.ok c.in-Some.ensures
