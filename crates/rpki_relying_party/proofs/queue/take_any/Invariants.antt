-- None waits on the first branches, and none was taken.
use Rattle.std.proofs.Common.{◌≡◌, [], map, take}
use Rattle.rpki_relying_party.specs.Queue.{place_on, somes}
use Rattle.rpki_relying_party.proofs.queue.take_any.Given as goal

abbrev pub invariant-loop-branch : goal.invariant-loop-branch
invariant-loop-branch g l = record {
  same : map place_on l.branches.items ≡ map place_on l.fn.branches.items;
  none : somes (take l.branch (map place_on l.fn.branches.items)) ≡ [];
}
