-- One more was put.
use Rattle.std.proofs.Common.{List, ◌++◌, length, ap, subst, arith}
use Rattle.std.specs.Prelude.{IsPermutation}
use Rattle.std.specs.Vec.Iter.{into_iter_items}
use Rattle.rpki_relying_party.proofs.Meeting.{put-one}
use Rattle.rpki_relying_party.proofs.walk.meet_all.Goals as goal

pub loop-place-preserved : goal.loop-place-preserved
loop-place-preserved g c =
    let steps = c.in-Some.ensures.steps in
    let short = ap (λ (l : List g.row.P.Denot). length l) (steps.0) in record {
      all = put-one (c.args.children.items ++ c.args.queue.now)
          (into_iter_items c.next.new.self) c.loop-place.queue c.put.new.self c.in-Some.place
          (subst (λ (l : List g.row.P.Denot). IsPermutation
          (c.args.children.items ++ c.args.queue.now) (l ++ c.loop-place.queue)) (steps.0)
          c.loop-place.invariant.all)
          c.in_ok-put.ensures;
      long = omega (arith, steps.1, short, c.loop-place.invariant.long);
    }
