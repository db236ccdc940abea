use Rattle.std.proofs.Common.{◌≡◌, take, drop}
use Rattle.rpki_basics.specs.Segments.{segments, onto}
use Rattle.rpki_basics.proofs.uri.segments.split_segment.Given as goal

abbrev pub invariant-octets : goal.invariant-octets
invariant-octets l = segments l.text ≡ onto (take l.i l.text) (segments (drop l.i l.text))
