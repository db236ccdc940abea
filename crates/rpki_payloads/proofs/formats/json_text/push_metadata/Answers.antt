use Rattle.std.proofs.Common.{codes, ap, refl, ◌∙◌}
use Rattle.serde_json.specs.Written.{has_float}
use Rattle.rpki_payloads.specs.Formats.Json.{item_text, metadata_data, metadata_part}
use Rattle.rpki_payloads.proofs.Written.{metadata_plain}
use Rattle.rpki_show.proofs.Grown.{grown}
use Rattle.rpki_payloads.proofs.formats.json_text.push_metadata.Goals as goal

pub returns : goal.returns
unfolding metadata_part
returns c =
    let printed = c.args.printed.now in
    let moment = printed.moment in
    let found = printed.found.now in
    let value = c.in_ok-value.ensures in
    let item = item_text (metadata_data moment found) in
    grown c.push_value.result c.args.text.now c.write.new.self c.push_value.new.text
    (codes ",\n\"metadata\":") item item c.in_ok-write.ensures.bytes
    (rw value at (c.push_value.ensures (ap has_float value ∙ metadata_plain moment found))) refl
