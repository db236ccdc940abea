use Rattle.std.proofs.Common.{ap, ◌∙◌}
use Rattle.serde_json.specs.Written.{has_float}
use Rattle.rpki_payloads.specs.Formats.Json.{RefusedRow, refused_data, refused_item}
use Rattle.rpki_payloads.proofs.formats.json_text.push_refusal.Goals as goal

pub returns : goal.returns
unfolding refused_item
returns c =
    let value = c.in_ok-value.ensures
    ∙ ap (λ (r : RefusedRow). refused_data r.name r.refusal) c.row.view_is in
    rw value at (c.push_value.ensures (ap has_float value))
