use Rattle.rpki_cli.specs.Answer.{said}
use Rattle.rpki_show.proofs.Shown.{of_kind}
use Rattle.rpki_show.proofs.contents.show_kind.Goals as goal

pub returns : goal.returns
returns c =
    of_kind c.args.causes c.args.options c.args.kind c.args.octets (said c.answer_for.result)
    c.answer_for.ensures
