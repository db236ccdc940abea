use Rattle.std.proofs.Common.{subst}
use Rattle.rpki_der.specs.declared.mode.Mode.TheVariants.{Der}
use Rattle.rpki_multi.specs.Attestation.{KeptWhole}
use Rattle.rpki_multi.specs.Multi.{AreIn}
use Rattle.rpki_multi.proofs.attestation.Rta.signed.Goals as goal

pub returns-clause-mode : goal.returns-clause-mode
returns-clause-mode c =
    subst (λ (k : KeptWhole). AreIn Der k.signed) c.self.view_is c.self.invariant.0
