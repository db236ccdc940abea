use Rattle.std.proofs.Common.{inl, inr, refl, subst}
use Rattle.rpki_sigobj.specs.Object.{mode_of}
use Rattle.rpki_check.specs.Object.{IsFoundOn}
use Rattle.rpki_validation.specs.declared.question.Manner.{Manner}
use Rattle.rpki_check.proofs.object.found_in.Goals as goal

pub returns-in-Err : goal.returns-in-Err
returns-in-Err g c = inl (c.in-Err.refusal, c.in-Err.ensures, refl)

pub returns-in-Ok : goal.returns-in-Ok
returns-in-Ok g c = inr (record {
  grounds = c.in-Ok.grounds;
  are = c.in-Ok.ensures;
  found =
      subst (λ (m : Manner). IsFoundOn g.T.Content.kind (g.T.Content.form (g.T.Lines.rule_in m))
      (mode_of m.strict) c.in-Ok.grounds c.args.octets.now c.found_on-found.result)
      c.manner_of-manner.ensures c.found_on-found.ensures;
})
