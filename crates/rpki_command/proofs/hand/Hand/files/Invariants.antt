use Rattle.std.proofs.Common.{◌≡◌}
use Rattle.std.specs.Iterator.Adapters.{zip_first, zip_second}
use Rattle.std.specs.Slice.Iter.{iter_rest}
use Rattle.rpki_command.proofs.Holding.{with-left}
use Rattle.rpki_command.proofs.hand.Hand.files.Given as goal

-- the files so far, and those that are left
abbrev pub invariant-loop-pair : goal.invariant-loop-pair
invariant-loop-pair l = with-left l.files.items (iter_rest (zip_first l.pair-iterator))
    (iter_rest (zip_second l.pair-iterator)) ≡ l.self
