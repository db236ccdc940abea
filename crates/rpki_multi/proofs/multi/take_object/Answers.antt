use Rattle.rpki_multi.proofs.Multis.Kept.{read-kept}
use Rattle.rpki_multi.proofs.multi.take_object.Goals as goal

pub of-requires : goal.of-requires
of-requires c =
    read-kept c.args.cons.now c.in-Ok.parts c.take_multi.new.cons c.holds_octets.ensures
    c.in-Ok.ensures.reads c.in-Ok.ensures.mode
