use Rattle.std.proofs.Common.{refl, sym, subst}
use Rattle.rpki_der.specs.declared.mode.Mode.TheVariants.{Der}
use Rattle.rpki_der.specs.Form.Made.{Begins}
use Rattle.rpki_tagged.specs.Attestation.{AttestationForm}
use Rattle.rpki_multi.specs.Attestation.{KeptWhole}
use Rattle.rpki_multi.specs.Multi.{KeptMulti, AreIn, CarriedIn}
use Rattle.rpki_multi.proofs.builder.RtaBuilder.into_object.Goals as goal

pub returns-clause-rta : goal.returns-clause-rta
returns-clause-rta c =
    let carried = subst (λ (k : KeptWhole). CarriedIn Der k.signed) (sym c.self.view_is)
    c.requires.der in (
      subst (λ (m : KeptMulti). AreIn Der m) (sym c.of.ensures) (refl, carried),
      subst (λ (m : KeptMulti). Begins (AttestationForm Der) m.content c.said.inside.content)
          (sym c.of.ensures) c.said.invariant,
    )
