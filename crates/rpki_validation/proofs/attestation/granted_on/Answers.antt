use Rattle.std.proofs.Common.{ℕ, List, Ok, Err, subst}
use Rattle.rpki_validation.specs.Attestation.{IsAttested, supplies_on}
use Rattle.rpki_validation.proofs.attestation.granted_on.Goals as goal

pub returns-in-Err : goal.returns-in-Err
returns-in-Err c =
    let g = c.args.grounds.now in
    subst (λ (o : List ℕ). IsAttested g.moment (supplies_on g) o (Err c.in-Err.fault))
    c.in-Ok.ensures.cases c.in-Err.ensures

pub returns-in-None : goal.returns-in-None
returns-in-None c =
    let g = c.args.grounds.now in (
      subst (λ (o : List ℕ). IsAttested g.moment (supplies_on g) o (Ok c.in-Ok-check_granted.rta))
          c.in-Ok.ensures.cases c.in-Ok-check_granted.ensures,
      c.in-None.ensures,
    )

pub returns-in-Some : goal.returns-in-Some
returns-in-Some c =
    let g = c.args.grounds.now in (
      c.in-Ok-check_granted.rta,
      subst (λ (o : List ℕ). IsAttested g.moment (supplies_on g) o (Ok c.in-Ok-check_granted.rta))
          c.in-Ok.ensures.cases c.in-Ok-check_granted.ensures,
      c.in-Some.ensures,
    )
