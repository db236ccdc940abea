use Rattle.std.proofs.Common.{◌≡◌, ◌++◌}
use Rattle.rpki_examples.proofs.numbers.to_vec.Given as goal

-- those that were pushed, and those that are still to come, are all
abbrev pub invariant-loop-number : goal.invariant-loop-number
invariant-loop-number l = l.numbers.items ++ l.number-iterator ≡ l.fn.list
