use Rattle.std.proofs.Common.{ap, ◌∙◌}
use Rattle.serde_json.specs.Written.{has_float}
use Rattle.rpki_payloads.proofs.Written.{roa_plain}
use Rattle.rpki_payloads.proofs.formats.json_text.push_roa.Goals as goal

pub returns : goal.returns
returns c =
    let value = c.in_ok-value.ensures in
    rw value at (c.push_value.ensures (ap has_float value ∙ roa_plain c.args.form c.args.row.now))
