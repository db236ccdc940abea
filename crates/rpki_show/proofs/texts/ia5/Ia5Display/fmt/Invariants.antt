use Rattle.std.proofs.Common.{take}
use Rattle.std.specs.Fmt.{HasWritten, IsPlainFormatter}
use Rattle.rpki_show.specs.Ia5.{ia5_text}
use Rattle.rpki_show.proofs.texts.ia5.Ia5Display.fmt.Given as goal

-- the characters so far are written
abbrev pub invariant-loop-code : goal.invariant-loop-code
invariant-loop-code g l =
    IsPlainFormatter l.initial.f
    → HasWritten g.W.Write.write_str_gives l.initial.f
    (ia5_text (take l.code-index l.code-items)) l.f
