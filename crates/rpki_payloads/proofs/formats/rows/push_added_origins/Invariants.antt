use Rattle.std.proofs.Common.{◌≡◌, ◌++◌, map, take}
use Rattle.rpki_payloads.specs.Formats.Rows.{asserted_row}
use Rattle.rpki_payloads.specs.Slurm.{asserted}
use Rattle.rpki_payloads.proofs.formats.rows.push_added_origins.Given as goal

abbrev pub invariant-loop-assertion : goal.invariant-loop-assertion
invariant-loop-assertion l = l.rows.items ≡ l.fn.rows.items
    ++ map (λ a. asserted_row (asserted a)) (take l.assertion-index l.assertion-items)
