use Rattle.std.proofs.Common.{◌≡◌, ◌++◌, length, string_bytes}
use denote.Text.{Utf8}
use denote.Shadow.{shadow}
use Rattle.rpki_program.specs.Verify.Entry.{indented}
use Rattle.rpki_program.proofs.verify.check.entry.push_indented.Given as goal

-- the text, and the lines that are left
abbrev pub invariant-loop-line : goal.invariant-loop-line
invariant-loop-line l = shadow (Utf8 l.rest)
    × (string_bytes l.text ++ indented l.rest ≡ string_bytes l.fn.text ++ indented l.fn.lines)

abbrev pub decreases-loop-line : goal.decreases-loop-line
decreases-loop-line l = length l.rest
