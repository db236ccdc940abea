use Rattle.std.proofs.Common.{◌≡◌, ◌++◌, take}
use Rattle.rpki_der.specs.Text.Hex.{upper_hex}
use Rattle.rpki_basics.proofs.hex.push_hex.Given as goal

abbrev pub invariant-loop-octet : goal.invariant-loop-octet
invariant-loop-octet l =
    l.text.items ≡ l.initial.text.items ++ upper_hex (take l.octet-index l.octets)
