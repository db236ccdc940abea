use Rattle.std.proofs.Common.{ℕ, List, inr, subst}
use Rattle.rpki_verdicts.specs.Verdicts.{AreVerdicts}
use Rattle.rpki_cli.specs.Answer.{said}
use Rattle.rpki_command.specs.Check.{CheckOf}
use Rattle.rpki_command.proofs.Checking.{of-three}
use Rattle.rpki_command.proofs.check.check_files.Goals as goal

pub returns-in-Some : goal.returns-in-Some
returns-in-Some c =
    of-three (λ (fs : List (List ℕ)).
    CheckOf c.args.options c.args.kind c.args.now fs (said c.check_with.result))
    c.args.files.now c.object-item.result c.verdicts-item.result c.anchor-item.result
    c.in-len3-up.len_at_least c.object-item.is c.verdicts-item.is c.anchor-item.is
    (inr (
      c.in-Some.verdicts,
      subst (λ (o : List ℕ). AreVerdicts o c.in-Some.verdicts) c.deref.ensures c.in-Some.ensures,
      c.check_with.ensures,
    ))
