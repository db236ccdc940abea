use Rattle.std.proofs.Common.{◌≡◌, ◌++◌, not, map}
use Rattle.std.specs.List.{filter}
use Rattle.rpki_payloads.specs.Formats.Row.{OriginRow}
use Rattle.rpki_payloads.specs.Formats.Rows.{origin_row, kept_origins}
use Rattle.rpki_payloads.specs.Slurm.{drops_origin}
use Rattle.rpki_payloads.proofs.formats.rows.push_kept_origins.Given as goal

-- the rows, and those of the origins that are still to come
abbrev pub invariant-loop-origin : goal.invariant-loop-origin
invariant-loop-origin l =
    l.rows.items ++ filter (λ (r : OriginRow). not (drops_origin l.exceptions r.origin))
    (map (origin_row l.one.name) l.origin-iterator)
    ≡ l.fn.rows.items ++ kept_origins l.exceptions l.one
