use Rattle.std.proofs.Common.{arith}
use Rattle.std.proofs.lemmas.Result.{err_from_is_err_and}
use Rattle.rpki_der.proofs.Writing.Pieces.{each_begun, pieces_within}
use Rattle.rpki_der.proofs.encode.list.ElementsEncode.put.Goals as goal

pub len_of-requires-clause-len : goal.len_of-requires-clause-len
len_of-requires-clause-len g c =
    omega (
      arith,
      c.requires.len,
      c.ranges._len.fits,
      pieces_within g.T.Encode.octets c.args.self.now.0.now c.loop-x.x-index c.x-item.result
          c.loop-x-test.true c.x-item.is,
    )

pub returns-in_err-put-clause-begun : goal.returns-in_err-put-clause-begun
returns-in_err-put-clause-begun g c =
    let p = err_from_is_err_and c.from_residual.result c.from_residual.ensures.1 in
    rw p.1 (each_begun g.T.Encode.octets c.args.self.now.0.now c.loop-x.x-index c.x-item.result _ _
    _ c.loop-x-test.true c.x-item.is c.loop-x.invariant.taken c.in_err-put.ensures.begun)
