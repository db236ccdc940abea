use Rattle.std.proofs.Common.{◌≡◌, ◌++◌, take}
use Rattle.rpki_relying_party_tests.specs.Numbers.{seconds_of}
use Rattle.rpki_relying_party_tests.proofs.walk.numbers.put_seconds.Given as goal

abbrev pub invariant-loop-number : goal.invariant-loop-number
invariant-loop-number l =
    l.list.items ≡ l.fn.list.items ++ seconds_of l.first (take l.number-index l.pairs)
