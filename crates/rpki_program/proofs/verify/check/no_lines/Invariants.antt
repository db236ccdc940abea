use Rattle.std.proofs.Common.{◌≡◌, List, ℕ, string_bytes, take}
use Rattle.std.specs.Borrow.{Bor}
use Rattle.std.specs.List.{AllZip, flat_map}
use Rattle.std.specs.Prelude.{false}
use Rattle.rpki_program.specs.Verify.Report.{IsLine}
use Rattle.rpki_program.proofs.verify.check.no_lines.Given as goal

-- a line for each of the files so far
abbrev pub invariant-loop-i : goal.invariant-loop-i
invariant-loop-i l = (lines : List (List ℕ))
    × AllZip (λ (f : Bor (List ℕ)) (x : List ℕ). IsLine f.now false x) (take l.i l.files) lines
    × (string_bytes l.text ≡ flat_map (λ x. x) lines)
