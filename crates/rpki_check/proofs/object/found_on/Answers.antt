use Rattle.std.proofs.Common.{ℕ, List, Ok, Err, subst}
use Rattle.rpki_sigobj.specs.Object.{mode_of}
use Rattle.rpki_check.specs.Object.{ChecksByLists}
use Rattle.rpki_check.proofs.object.found_on.Goals as goal

pub returns-in-Ok-check_on : goal.returns-in-Ok-check_on
returns-in-Ok-check_on g c = (
  c.in-Ok-check_on.cert,
  subst (λ (o : List ℕ). ChecksByLists g.T.Content.kind
      (g.T.Content.form (g.T.Lines.rule_in c.args.manner)) (mode_of c.args.manner.strict)
      c.args.grounds.now o (Ok (c.in-Ok-check_on.cert, c.in-Ok-check_on.content)))
      c.in-Ok.ensures c.in-Ok-check_on.ensures,
)

pub returns-in-Err : goal.returns-in-Err
returns-in-Err g c =
    subst (λ (o : List ℕ). ChecksByLists g.T.Content.kind
    (g.T.Content.form (g.T.Lines.rule_in c.args.manner)) (mode_of c.args.manner.strict)
    c.args.grounds.now o (Err c.in-Err.fault)) c.in-Ok.ensures c.in-Err.ensures
