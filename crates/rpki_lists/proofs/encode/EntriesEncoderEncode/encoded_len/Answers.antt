use Rattle.std.proofs.Common.{ap, arith, length}
use Rattle.rpki_lists.proofs.Writing.{len-more}
use Rattle.rpki_lists.proofs.encode.EntriesEncoderEncode.encoded_len.Goals as goal

pub loop-item-preserved : goal.loop-item-preserved
loop-item-preserved g c =
    len-more g.E.Written.octets g.E.Written.is_short c.args.self.now.0 c.loop-item.rest
    c.next.new.self (g.E.SliceEntry.shown c.in-Some.item) c.loop-item.total c.in-Some-checked_add.n
    c.loop-item.invariant c.in-Some.ensures.steps
    (omega (
      arith,
      c.in-Some-checked_add.ensures,
      c.in_ok-n.ensures.0,
      ap length c.encoder.ensures.octets,
    ))
    (c.encoder.ensures.short.0 c.in_ok-n.ensures.2)
