use Rattle.rpki_payloads.specs.Formats.Json.{aspas_part, metadata_part, roas_part}
use Rattle.rpki_payloads.specs.declared.formats.members.AsForm.TheVariants.{Number}
use Rattle.rpki_payloads.proofs.Written.{thrice}
use Rattle.rpki_payloads.proofs.formats.json_text.push_client.Goals as goal

pub returns : goal.returns
returns c =
    let printed = c.args.printed.now in
    thrice c.push_roas.result c.args.text.now c.push_aspas.new.text c.push_metadata.new.text
    c.push_roas.new.text (aspas_part Number c.args.groups.now)
    (metadata_part printed.moment printed.found.now) (roas_part Number printed.origins.now)
    c.in_ok-push_aspas.ensures c.in_ok-push_metadata.ensures c.push_roas.ensures
