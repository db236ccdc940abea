use Rattle.std.proofs.Common.{◌≡◌, map, take}
use Rattle.serde_json.specs.View.{view}
use Rattle.rpki_payloads.specs.Formats.Json.{count_data}
use Rattle.rpki_payloads.proofs.formats.members.count_values.Given as goal

abbrev pub invariant-loop-one : goal.invariant-loop-one
invariant-loop-one l = map view l.values.items ≡ map count_data (take l.one-index l.found)
