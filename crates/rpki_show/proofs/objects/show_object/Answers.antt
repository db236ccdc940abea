use Rattle.rpki_cli.specs.Answer.{said}
use Rattle.rpki_show.proofs.Shown.{object_of_kind}
use Rattle.rpki_show.proofs.objects.show_object.Goals as goal

pub returns : goal.returns
returns c =
    object_of_kind c.args.causes c.args.options c.args.kind c.args.octets
    (said c.answer_for.result)
    c.answer_for.ensures
