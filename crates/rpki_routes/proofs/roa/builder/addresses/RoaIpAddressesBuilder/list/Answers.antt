use Rattle.std.proofs.Common.{◌∙◌}
use Rattle.std.proofs.lemmas.Result.{err_from_is_err_and}
use Rattle.rpki_routes.proofs.Origins.Built.{list-held, list-unwritten}
use Rattle.rpki_routes.proofs.roa.builder.addresses.RoaIpAddressesBuilder.list.Goals as goal

pub returns-in_err-octets-clause-refused : goal.returns-in_err-octets-clause-refused
returns-in_err-octets-clause-refused c =
    let p = err_from_is_err_and c.from_residual.result c.from_residual.ensures.1 in
    rw (p.1, p.2) (list-unwritten c.args.family c.each.result.0.now c.args.self.now _
    (c.each.ensures ∙ c.as_slice.ensures.value ∙ c.self.view_is) c.requires
    c.in_err-octets.ensures.refused)

pub of-requires : goal.of-requires
of-requires c =
    (list-held c.args.family c.in_ok-octets.octets.items c.each.result.0.now c.args.self.now
    c.in_ok-octets.ensures.written
    (c.each.ensures ∙ c.as_slice.ensures.value ∙ c.self.view_is) c.requires).0

pub returns-clause-built : goal.returns-clause-built
returns-clause-built c =
    c.in_ok-of.ensures
    ∙ (list-held c.args.family c.in_ok-octets.octets.items c.each.result.0.now c.args.self.now
    c.in_ok-octets.ensures.written
    (c.each.ensures ∙ c.as_slice.ensures.value ∙ c.self.view_is) c.requires).1
