use Rattle.std.proofs.Common.{ℕ, List, Ok, Err, subst}
use Rattle.rpki_sigobj.specs.Object.{mode_of}
use Rattle.rpki_validation.specs.Object.{ChecksOn}
use Rattle.rpki_validation.proofs.object.found_on.Goals as goal

pub returns-in-Err : goal.returns-in-Err
returns-in-Err g c =
    subst (λ (o : List ℕ). ChecksOn g.T.Content.kind
    (g.T.Content.form (g.T.Lines.rule_in c.args.manner)) (mode_of c.args.manner.strict)
    c.args.grounds.now o (Err c.in-Err.fault)) c.in-Ok.ensures.cases c.in-Err.ensures

pub returns-in-None : goal.returns-in-None
returns-in-None g c = (
  c.in-Ok-check_on.cert,
  subst (λ (o : List ℕ). ChecksOn g.T.Content.kind
      (g.T.Content.form (g.T.Lines.rule_in c.args.manner)) (mode_of c.args.manner.strict)
      c.args.grounds.now o (Ok (c.in-Ok-check_on.cert, c.in-Ok-check_on.content)))
      c.in-Ok.ensures.cases c.in-Ok-check_on.ensures,
  c.in-None.ensures,
)

pub returns-in-Some : goal.returns-in-Some
returns-in-Some g c = (
  c.in-Ok-check_on.cert,
  c.in-Ok-check_on.content,
  subst (λ (o : List ℕ). ChecksOn g.T.Content.kind
      (g.T.Content.form (g.T.Lines.rule_in c.args.manner)) (mode_of c.args.manner.strict)
      c.args.grounds.now o (Ok (c.in-Ok-check_on.cert, c.in-Ok-check_on.content)))
      c.in-Ok.ensures.cases c.in-Ok-check_on.ensures,
  c.in-Some.ensures,
)
