use Rattle.std.proofs.Common.{length}
use Rattle.rpki_lists.proofs.Writing.{LenSoFar}
use Rattle.rpki_lists.proofs.encode.EntriesEncoderEncode.encoded_len.Given as goal

abbrev pub invariant-loop-item : goal.invariant-loop-item
invariant-loop-item g l = LenSoFar g.E.Written.octets g.E.Written.is_short l.fn.self.0 l.rest
    l.total

abbrev pub decreases-loop-item : goal.decreases-loop-item
decreases-loop-item g l = length l.rest
