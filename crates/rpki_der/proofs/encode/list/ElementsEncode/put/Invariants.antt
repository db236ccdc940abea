use Rattle.std.proofs.Common.{◌≡◌, take}
use Rattle.std.specs.List.{flat_map}
use Rattle.std.specs.Io.KnownBytes.{Appends}
use Rattle.rpki_der.proofs.encode.list.ElementsEncode.put.Given as goal

abbrev pub invariant-loop-x : goal.invariant-loop-x
invariant-loop-x g l =
    record {
      taken : Appends (g.W.Sink.taken l.fn.out) (g.W.Sink.taken l.out)
          (flat_map g.T.Encode.octets (take l.x-index l.x-items));
      same : g.W.Sink.failures l.out ≡ g.W.Sink.failures l.fn.out;
    }
