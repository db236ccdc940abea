use Rattle.std.proofs.Common.{◌≡◌}
use Rattle.rpki_program.proofs.verify.show.show.Given as goal

-- no write has failed, and standard error is left alone
abbrev pub invariant-loop-file : goal.invariant-loop-file
invariant-loop-file g l = record {
  failures : g.O.Sink.failures l.out ≡ g.O.Sink.failures l.fn.out;
  silent : l.err ≡ l.fn.err;
}
