use Rattle.std.proofs.Common.{ℕ, List, Ok, Err, subst, refl}
use Rattle.rpki_validation.specs.Attestation.{IsGrantedOn}
use Rattle.rpki_validation.specs.declared.refusal.Refusal.TheVariants as causes
use Rattle.rpki_check.proofs.Asking.{unlocated-rta}
use Rattle.rpki_check.proofs.attestation.granted_on.Goals as goal

pub told_as-requires : goal.told_as-requires
told_as-requires c =
    unlocated-rta c.args.grounds.now c.in-Ok.source c.in-Err.refusal c.in-Err.ensures

pub returns-in_default : goal.returns-in_default
returns-in_default c = (causes.Memory, tt, refl)

pub returns-in-Ok-granted_on : goal.returns-in-Ok-granted_on
returns-in-Ok-granted_on c =
    subst (λ (o : List ℕ). IsGrantedOn c.args.grounds.now o (Ok c.in-Ok-granted_on.rta))
    c.in-Ok.ensures c.in-Ok-granted_on.ensures

pub returns : goal.returns
returns c = (
  c.in-Err.refusal,
  subst (λ (o : List ℕ). IsGrantedOn c.args.grounds.now o (Err c.in-Err.refusal)) c.in-Ok.ensures
      c.in-Err.ensures,
  c.told_as.ensures,
)
