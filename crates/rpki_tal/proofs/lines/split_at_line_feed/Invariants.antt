use Rattle.std.proofs.Common.{take}
use Rattle.rpki_tal.specs.Lines.{IsOneLine}
use Rattle.rpki_tal.proofs.lines.split_at_line_feed.Given as goal

abbrev pub invariant-octets : goal.invariant-octets
invariant-octets l = IsOneLine (take l.i l.text)
