use Rattle.std.proofs.Common.{Some, None}
use Rattle.rpki_der.specs.declared.mode.Mode.TheVariants.{Der}
use Rattle.rpki_lists.proofs.Known.{none-there}
use Rattle.rpki_resources.specs.Ip.Read.{prefix_at}
use Rattle.rpki_routes.proofs.Origins.Known.{bits-in-front}
use Rattle.rpki_routes.proofs.Origins.Networks.{network-found}
use Rattle.rpki_routes.proofs.roa.bits.known_prefix.Goals as goal

pub known_bits-bits-requires : goal.known_bits-bits-requires
known_bits-bits-requires c = bits-in-front _ c.requires

pub unreachable-requires : goal.unreachable-requires
unreachable-requires c =
    none-there (prefix_at 128 Der c.args.reader.now) c.requires
    (network-found _ _ _ c.known_bits-bits.ensures None c.in-None.ensures)

pub returns : goal.returns
returns c = network-found _ _ _ c.known_bits-bits.ensures (Some c.in-Some.prefix) c.in-Some.ensures
