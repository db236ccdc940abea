-- What waits, and what the loop has still to put.
use Rattle.std.proofs.Common.{◌≡◌, ◌++◌, length}
use Rattle.std.specs.Prelude.{IsPermutation}
use Rattle.std.specs.Vec.Iter.{into_iter_items, into_iter_len}
use Rattle.rpki_relying_party.proofs.walk.meet_all.Given as goal

abbrev pub invariant-loop-place : goal.invariant-loop-place
invariant-loop-place g l = record {
  all : IsPermutation (l.fn.children.items ++ l.fn.queue)
      (into_iter_items l.place-iterator ++ l.queue);
  long : into_iter_len l.place-iterator ≡ length (into_iter_items l.place-iterator);
}
