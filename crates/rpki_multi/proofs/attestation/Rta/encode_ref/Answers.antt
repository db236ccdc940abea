use Rattle.std.proofs.Common.{◌<◌, ◌^◌, length, subst}
use Rattle.rpki_der.specs.declared.mode.Mode.TheVariants.{Der}
use Rattle.rpki_multi.specs.Attestation.{KeptWhole, RtaForm, whole_of}
use Rattle.rpki_multi.specs.Multi.{AreIn}
use Rattle.rpki_multi.specs.Written.{multi_contents, multi_octets}
use Rattle.rpki_multi.proofs.attestation.Rta.encode_ref.Goals as goal

pub returns-clause-mode : goal.returns-clause-mode
returns-clause-mode c =
    subst (λ (k : KeptWhole). AreIn Der k.signed) c.self.view_is c.self.invariant.0

pub returns-clause-written : goal.returns-clause-written
returns-clause-written c =
    subst (λ (k : KeptWhole). length (multi_contents k.signed) < 2 ^ 32
    → RtaForm Der (multi_octets k.signed) (whole_of k)) c.self.view_is
    (λ short. (c.encode_ref.ensures.written c.self.invariant.0 short, c.self.invariant.1))
