use Rattle.std.proofs.Common.{◌∙◌, rules, sym}
use Rattle.serde_json.specs.View.{members_view}
use Rattle.rpki_payloads.proofs.Named.{named}
use Rattle.rpki_payloads.proofs.slurm.said.only_has.Goals as goal

pub returns-in-Some : goal.returns-in-Some
returns-in-Some c = λ e. (
  members_view c.in-Some.members.now.entries,
  search (rules, c.as_object.ensures),
  named c.args.names.now c.in-Some.members.now.entries (sym c.are_among.ensures ∙ e),
)
