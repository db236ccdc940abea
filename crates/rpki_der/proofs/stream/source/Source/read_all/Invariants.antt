use Rattle.std.proofs.Common.{◌≡◌, ◌-◌, ◌^◌, length}
use Rattle.std.specs.Io.KnownBytes.{Consumes}
use Rattle.rpki_der.proofs.stream.source.Source.read_all.Given as goal

-- what was given so far
abbrev pub invariant-loop-octets : goal.invariant-loop-octets
invariant-loop-octets g l =
    record {
      given : Consumes (g.Self.Source.left l.fn.self) (g.Self.Source.left l.self) l.octets.items;
      same : g.Self.Source.failures l.self ≡ g.Self.Source.failures l.fn.self;
      room : length l.chunk ≡ 512;
    }

abbrev pub decreases-loop-octets : goal.decreases-loop-octets
decreases-loop-octets g l = 2 ^ 63 - length l.octets.items
