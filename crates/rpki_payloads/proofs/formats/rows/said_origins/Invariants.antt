use Rattle.std.proofs.Common.{◌≡◌, ◌++◌, take}
use Rattle.std.specs.List.{flat_map}
use Rattle.rpki_payloads.specs.Formats.Rows.{kept_origins, added_origins}
use Rattle.rpki_payloads.proofs.formats.rows.said_origins.Given as goal

abbrev pub invariant-loop-one : goal.invariant-loop-one
invariant-loop-one l =
    l.rows.items ≡ flat_map (kept_origins l.exceptions) (take l.one-index l.found)

abbrev pub invariant-loop-file : goal.invariant-loop-file
invariant-loop-file l = l.rows.items
    ≡ flat_map (kept_origins l.exceptions) l.found
    ++ flat_map added_origins (take l.file-index l.exceptions)
