use Rattle.std.proofs.Common.{length, All}
use Rattle.rpki_der.specs.Read.Reads.{ReadUpTo}
use Rattle.rpki_resources.proofs.list.take_list.Given as goal

abbrev pub invariant-loop-list : goal.invariant-loop-list
invariant-loop-list g l =
    record {
      read : ReadUpTo (g.T.Listed.parser l.fn.family) l.list.items l.fn.cons l.cons;
      known : All g.T.Listed.known l.list.items;
    }

abbrev pub decreases-loop-list : goal.decreases-loop-list
decreases-loop-list g l = length l.cons.rest
