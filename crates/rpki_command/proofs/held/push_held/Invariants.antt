use Rattle.std.proofs.Common.{◌≡◌, ◌++◌, string_bytes, length}
use Rattle.std.specs.List.{flat_map}
use Rattle.rpki_command.specs.Held.{held_line}
use Rattle.rpki_command.proofs.held.push_held.Given as goal

-- the text, and the lines of the entries that are still to come
abbrev pub invariant-loop-entry : goal.invariant-loop-entry
invariant-loop-entry g l = string_bytes l.text ++ flat_map held_line l.walk
    ≡ string_bytes l.fn.text ++ flat_map held_line l.initial.walk

abbrev pub decreases-loop-entry : goal.decreases-loop-entry
decreases-loop-entry g l = length l.walk
