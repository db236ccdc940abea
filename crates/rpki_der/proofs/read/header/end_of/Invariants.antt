use Rattle.std.proofs.Common.{◌≡◌, ◌≤◌, ◌+◌, length}
use Rattle.rpki_der.specs.Read.Parse.{end_of}
use Rattle.rpki_der.proofs.read.header.end_of.Given as goal

abbrev pub invariant-loop-after : goal.invariant-loop-after
invariant-loop-after l =
    record {
      same : end_of l.depth l.rest ≡ end_of 0 l.fn.bytes;
      room : l.depth + length l.rest ≤ length l.fn.bytes;
    }

abbrev pub decreases-loop-after : goal.decreases-loop-after
decreases-loop-after l = length l.rest
