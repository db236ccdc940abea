use Rattle.std.proofs.Common.{◌≡◌, map, take}
use Rattle.serde_json.specs.View.{view}
use Rattle.rpki_payloads.specs.Formats.Json.{provider_data}
use Rattle.rpki_payloads.proofs.formats.members.provider_values.Given as goal

abbrev pub invariant-loop-row : goal.invariant-loop-row
invariant-loop-row l =
    map view l.values.items ≡ map (provider_data l.form) (take l.row-index l.row-items)
