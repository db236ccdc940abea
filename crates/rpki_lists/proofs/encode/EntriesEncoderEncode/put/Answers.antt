use Rattle.std.proofs.Common.{◌∙◌}
use Rattle.std.proofs.lemmas.Result.{err_from_is_err_and}
use Rattle.rpki_lists.proofs.Writing.{put-more, put-begun}
use Rattle.rpki_lists.proofs.encode.EntriesEncoderEncode.put.Goals as goal

pub returns-in_err-put-clause-begun : goal.returns-in_err-put-clause-begun
returns-in_err-put-clause-begun g c =
    let p = err_from_is_err_and c.from_residual.result c.from_residual.ensures.1 in
    rw p.1 (put-begun g.E.Written.octets g.E.Written.is_short c.args.self.now.0 c.loop-item.rest
    c.next.new.self _ _ _ (g.E.SliceEntry.shown c.in-Some.item) _ c.loop-item.invariant.so_far
    c.in-Some.ensures.steps c.encoder-encoder.ensures.octets c.in_err-put.ensures.begun)

pub loop-item-preserved : goal.loop-item-preserved
loop-item-preserved g c = record {
  so_far = put-more g.E.Written.octets g.E.Written.is_short c.args.self.now.0 c.loop-item.rest
      c.next.new.self _ _ _ (g.E.SliceEntry.shown c.in-Some.item) _ c.loop-item.invariant.so_far
      c.in-Some.ensures.steps c.encoder-encoder.ensures.octets c.in_ok-put.ensures.ok;
  same = c.in_ok-put.ensures.same ∙ c.loop-item.invariant.same;
}
