use Rattle.std.proofs.Common.{take, arith, length-append}
use Rattle.std.specs.List.{flat_map}
use Rattle.std.proofs.lemmas.Result.{err_from_is_err_and}
use Rattle.rpki_der.proofs.Writing.Pieces.{each_fault, pieces_within, pieces_more, one_more}
use Rattle.rpki_der.proofs.encode.list.ElementsEncode.encoded_len.Goals as goal

pub returns-in_err-n : goal.returns-in_err-n
returns-in_err-n g c =
    let p = err_from_is_err_and c.from_residual.result c.from_residual.ensures.1 in
    rw (p.1, p.2) (each_fault g.T.Encode.octets g.T.Encode.is_der g.T.Encode.is_short
    c.args.self.now.0.now c.loop-x.x-index c.x-item.result c.loop-x-test.true c.x-item.is _
    c.in_err-n.ensures)

pub returns-in-None : goal.returns-in-None
returns-in-None g c =
    λ h. omega (
      arith,
      h.1,
      c.in-None.ensures,
      c.in_ok-n.ensures.0,
      c.loop-x.invariant.len,
      pieces_within g.T.Encode.octets c.args.self.now.0.now c.loop-x.x-index c.x-item.result
          c.loop-x-test.true c.x-item.is,
    )

pub loop-x-preserved : goal.loop-x-preserved
loop-x-preserved g c =
    let more = pieces_more g.T.Encode.octets c.args.self.now.0.now c.loop-x.x-index c.x-item.result
    c.loop-x-test.true c.x-item.is in
    record {
      len = rw more (omega (
        arith,
        c.in-Some.ensures,
        c.in_ok-n.ensures.0,
        c.loop-x.invariant.len,
        length-append (flat_map g.T.Encode.octets (take c.loop-x.x-index c.args.self.now.0.now))
            (g.T.Encode.octets c.x-item.result),
      ));
      der = one_more g.T.Encode.is_der c.args.self.now.0.now c.loop-x.x-index c.x-item.result
          c.loop-x-test.true c.x-item.is c.loop-x.invariant.der c.in_ok-n.ensures.1;
      short = one_more g.T.Encode.is_short c.args.self.now.0.now c.loop-x.x-index c.x-item.result
          c.loop-x-test.true c.x-item.is c.loop-x.invariant.short c.in_ok-n.ensures.2;
    }
