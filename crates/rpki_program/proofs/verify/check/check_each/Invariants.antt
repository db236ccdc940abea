use Rattle.std.proofs.Common.{◌≡◌, take}
use Rattle.rpki_program.specs.Verify.Check.{AreWritten}
use Rattle.rpki_program.proofs.verify.check.check_each.Given as goal

-- the entries so far
abbrev pub invariant-loop-i : goal.invariant-loop-i
invariant-loop-i g l = record {
  same : g.S.Store.told l.store ≡ g.S.Store.told l.fn.store;
  written : AreWritten (g.S.Store.told l.fn.store) l.request l.on.question.now l.on.grounds.now
      (take l.i l.files) (g.O.Sink.taken l.fn.out) (g.O.Sink.taken l.out) l.status;
  failures : g.O.Sink.failures l.out ≡ g.O.Sink.failures l.fn.out;
}
