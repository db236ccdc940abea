use Rattle.std.proofs.Common.{◌≡◌, ◌++◌, take}
use Rattle.std.specs.List.{flat_map}
use Rattle.rpki_payloads.specs.Formats.Rows.{kept_providers, added_providers}
use Rattle.rpki_payloads.proofs.formats.rows.said_providers.Given as goal

abbrev pub invariant-loop-one : goal.invariant-loop-one
invariant-loop-one l =
    l.rows.items ≡ flat_map (kept_providers l.exceptions) (take l.one-index l.found)

abbrev pub invariant-loop-file : goal.invariant-loop-file
invariant-loop-file l = l.rows.items
    ≡ flat_map (kept_providers l.exceptions) l.found
    ++ flat_map added_providers (take l.file-index l.exceptions)
