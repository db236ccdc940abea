use Rattle.std.proofs.Common.{length}
use Rattle.rpki_lists.proofs.Counting.{CountSoFar}
use Rattle.rpki_lists.proofs.rule.count_by.Given as goal

abbrev pub invariant-loop-reader : goal.invariant-loop-reader
invariant-loop-reader g l =
    CountSoFar g.R.EntryKind.EntryKind.entry_at g.R.Rule.after l.fn.rule l.rule l.fn.octets l.reader
    l.count

abbrev pub decreases-loop-reader : goal.decreases-loop-reader
decreases-loop-reader g l = length l.reader
