use Rattle.std.proofs.Common.{◌≡◌, ℕ, List, ◌++◌, length}
use Rattle.std.specs.Io.KnownBytes.{Appends}
use Rattle.rpki_der.proofs.stream.sink.Sink.take_all.Given as goal

-- what was taken so far, and what is left
abbrev pub invariant-loop-rest : goal.invariant-loop-rest
invariant-loop-rest g l =
    record {
      front : List ℕ;
      whole : l.octets ≡ front ++ l.rest;
      taken : Appends (g.Self.Sink.taken l.fn.self) (g.Self.Sink.taken l.self) front;
      same : g.Self.Sink.failures l.self ≡ g.Self.Sink.failures l.fn.self;
    }

abbrev pub decreases-loop-rest : goal.decreases-loop-rest
decreases-loop-rest g l = length l.rest
