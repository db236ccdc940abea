use Rattle.std.proofs.Common.{◌≡◌}
use Rattle.rpki_program.proofs.verify.check.noted.Given as goal

-- no write has failed
abbrev pub invariant-loop-i : goal.invariant-loop-i
invariant-loop-i g l = g.E.Sink.failures l.err ≡ g.E.Sink.failures l.fn.err
