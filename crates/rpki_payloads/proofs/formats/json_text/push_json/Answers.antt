use Rattle.std.proofs.Common.{◌++◌, refl}
use Rattle.rpki_payloads.specs.Formats.Json.{aspas_part, metadata_part, refused_part, roas_part}
use Rattle.rpki_payloads.specs.declared.formats.members.AsForm.TheVariants.{Text}
use Rattle.rpki_payloads.proofs.Written.{thrice}
use Rattle.rpki_show.proofs.Grown.{grown}
use Rattle.rpki_payloads.proofs.formats.json_text.push_json.Goals as goal

pub returns : goal.returns
returns c =
    let printed = c.args.printed.now in
    let roas = roas_part Text printed.origins.now in
    let refused = refused_part printed.found.now in
    thrice c.push_roas.result c.args.text.now c.push_aspas.new.text c.push_metadata.new.text
    c.push_roas.new.text (aspas_part Text c.args.groups.now)
    (metadata_part printed.moment printed.found.now) (refused ++ roas)
    c.in_ok-push_aspas.ensures c.in_ok-push_metadata.ensures
    (grown c.push_roas.result c.push_metadata.new.text c.push_refused.new.text
    c.push_roas.new.text refused roas roas c.in_ok-push_refused.ensures c.push_roas.ensures refl)
