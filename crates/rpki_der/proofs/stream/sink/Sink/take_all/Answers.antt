use Rattle.std.proofs.Common.{◌∙◌, ◌++◌, take}
use Rattle.rpki_der.proofs.Writing.Taken.{Appends-trans, moved}
use Rattle.rpki_der.proofs.stream.sink.Sink.take_all.Goals as goal

pub loop-rest-preserved : goal.loop-rest-preserved
loop-rest-preserved g c =
    let taken = c.in_ok-n.ensures.taken in
    record {
      front = c.loop-rest.invariant.front ++ take c.in_ok-n.n c.loop-rest.rest.now;
      whole = c.loop-rest.invariant.whole
          ∙ moved c.loop-rest.invariant.front c.loop-rest.rest.now c.in_ok-n.n;
      taken = Appends-trans _ _ _ _ _ c.loop-rest.invariant.taken taken;
      same = c.in_ok-n.ensures.ok ∙ c.loop-rest.invariant.same;
    }
