use Rattle.std.proofs.Common.{ℕ, List, inr, subst}
use Rattle.rpki_verdicts.specs.Verdicts.{AreVerdicts}
use Rattle.rpki_cli.specs.Answer.{said}
use Rattle.rpki_cli.specs.Words.{texts}
use Rattle.rpki_command.specs.Walk.{WalkOf}
use Rattle.rpki_command.proofs.Checking.{of-three}
use Rattle.rpki_command.proofs.walk.walk_files.Goals as goal

pub returns-in-Some : goal.returns-in-Some
returns-in-Some c =
    of-three (λ (fs : List (List ℕ)).
    WalkOf c.args.options c.args.now (texts c.args.tail.now) fs (said c.walk_with.result))
    c.args.files.now c.object-item.result c.verdicts-item.result c.anchor-item.result
    c.in-len3-up.len_at_least c.object-item.is c.verdicts-item.is c.anchor-item.is
    (inr (
      c.in-Some.verdicts,
      subst (λ (o : List ℕ). AreVerdicts o c.in-Some.verdicts) c.deref.ensures c.in-Some.ensures,
      c.walk_with.ensures,
    ))
