use Rattle.std.proofs.Common.{length-append, arith}
use Rattle.rpki_der.specs.Write.Written.{length_octets, length_octets_le}
use Rattle.rpki_der.proofs.build.tlv.Goals as goal

pub returns-in-Ok-clause-too_long : goal.returns-in-Ok-clause-too_long
returns-in-Ok-clause-too_long c = λ e k.
    let w = rw e at c.to_bytes.ensures in
    w (
      (tt, tt),
      omega (
        arith,
        k,
        length-append (length_octets c.in-Ok.len) c.args.contents.now,
        length_octets_le c.in-Ok.len,
      ),
    )
