use Rattle.std.proofs.Common.{◌≡◌, length, take, All}
use Rattle.std.specs.List.{flat_map}
use Rattle.rpki_der.proofs.encode.list.ElementsEncode.encoded_len.Given as goal

abbrev pub invariant-loop-x : goal.invariant-loop-x
invariant-loop-x g l =
    record {
      len : l.total ≡ length (flat_map g.T.Encode.octets (take l.x-index l.x-items));
      der : All g.T.Encode.is_der (take l.x-index l.x-items);
      short : All g.T.Encode.is_short (take l.x-index l.x-items);
    }
