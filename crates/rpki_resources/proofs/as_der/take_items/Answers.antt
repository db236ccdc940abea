use Rattle.std.proofs.Common.{rules}
use Rattle.rpki_resources.proofs.AsNumbers.Exact.{as-takes}
use Rattle.rpki_resources.proofs.Sets.Joining.{joined-only}
use Rattle.rpki_resources.proofs.as_der.take_items.Goals as goal

pub take_list-requires : goal.take_list-requires
take_list-requires c = λ mode octets x rest e. (as-takes mode).at octets x rest e

pub returns : goal.returns
returns c =
    let e = joined-only c.in_ok-of.field-0 c.in_ok-list.list.items c.in_ok-list.ensures.known
    c.in_ok-of.ensures.canonical c.in_ok-of.ensures.same in search rules
