use Rattle.std.proofs.Common.{◌≡◌, length}
use Rattle.rpki_lists.proofs.Writing.{PutSoFar}
use Rattle.rpki_lists.proofs.encode.EntriesEncoderEncode.put.Given as goal

abbrev pub invariant-loop-item : goal.invariant-loop-item
invariant-loop-item g l =
    record {
      so_far : PutSoFar g.E.Written.octets g.E.Written.is_short l.fn.self.0 l.rest
          (g.W.Sink.taken l.fn.out) (g.W.Sink.taken l.out);
      same : g.W.Sink.failures l.out ≡ g.W.Sink.failures l.fn.out;
    }

abbrev pub decreases-loop-item : goal.decreases-loop-item
decreases-loop-item g l = length l.rest
