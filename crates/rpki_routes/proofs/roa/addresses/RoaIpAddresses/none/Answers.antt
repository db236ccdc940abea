use Rattle.std.proofs.Common.{◌≡◌, List, [], Option, Some, None, sym, ◌∙◌}
use Rattle.rpki_der.proofs.Reading.Lengths.{some_is}
use Rattle.rpki_routes.specs.Roa.{Address}
use Rattle.rpki_routes.specs.Roa.Read.{address_at}
use Rattle.rpki_routes.proofs.Origins.Small.{none-found}
use Rattle.rpki_routes.proofs.roa.addresses.RoaIpAddresses.none.Goals as goal

clash : (let some : Option (List Address) = Some [] in some) ≡ None → ⊥
clash e = cc

pub unreachable-requires : goal.unreachable-requires
unreachable-requires c =
    clash (sym (none-found address_at c.new.result c.new.ensures) ∙ c.in-None.ensures)

pub returns : goal.returns
returns c =
    sym (some_is [] c.in-Some.list
    (sym (none-found address_at c.new.result c.new.ensures) ∙ c.in-Some.ensures))
