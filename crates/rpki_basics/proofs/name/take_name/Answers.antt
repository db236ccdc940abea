use Rattle.rpki_basics.proofs.Names.Exact.{name-of}
use Rattle.rpki_basics.proofs.name.take_name.Goals as goal

pub of-requires : goal.of-requires
of-requires c =
    name-of c.args.cons.now c.capture_name.result c.in-Ok.captured c.capture_name.new.cons
    c.holds_octets.ensures c.capture_name.ensures.reads c.capture_name.ensures.mode c.in-Ok.is
