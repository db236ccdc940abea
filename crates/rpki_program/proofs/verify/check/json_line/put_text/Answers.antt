use Rattle.std.proofs.Common.{◌∙◌, ap}
use Rattle.serde_json.specs.Data.{string}
use Rattle.serde_json.specs.View.{members_view}
use Rattle.rpki_program.proofs.Lined.{put-found}
use Rattle.rpki_program.proofs.verify.check.json_line.put_text.Goals as goal

pub returns : goal.returns
returns c =
    put-found c.args.name.now _ (string c.args.text.now) (members_view c.args.members.now.entries) _
    (c.from.ensures ∙ ap string c.in_ok-text.ensures.ok) c.in_ok-put.ensures.ok
