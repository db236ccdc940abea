use Rattle.std.proofs.Common.{ℕ, List, inr, subst}
use Rattle.rpki_verdicts.specs.Verdicts.{AreVerdicts}
use Rattle.rpki_cli.specs.Answer.{said}
use Rattle.rpki_cli.specs.Words.{texts}
use Rattle.rpki_command.specs.Rta.{RtaOf}
use Rattle.rpki_command.proofs.Checking.{of-two}
use Rattle.rpki_command.proofs.rta.check_files.Goals as goal

pub returns-in-Some : goal.returns-in-Some
returns-in-Some c =
    of-two (λ (fs : List (List ℕ)).
    RtaOf c.args.now (texts c.args.words.now) fs (said c.check_rta.result))
    c.args.files.now c.object-item.result c.verdicts-item.result c.in-len2-up.len_at_least
    c.object-item.is c.verdicts-item.is
    (inr (
      c.in-Some.verdicts,
      subst (λ (o : List ℕ). AreVerdicts o c.in-Some.verdicts) c.deref.ensures c.in-Some.ensures,
      c.check_rta.ensures,
    ))
