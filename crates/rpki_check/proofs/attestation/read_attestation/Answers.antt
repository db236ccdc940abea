use Rattle.std.proofs.Common.{ℕ, List, refl, subst}
use Rattle.rpki_der.specs.declared.mode.Mode.TheVariants.{Der}
use Rattle.rpki_der.specs.Form.Decodes.{IsOnlyFront}
use Rattle.rpki_der.specs.Grammar.{HasNoFront}
use Rattle.rpki_der.specs.Read.Reads.{Refuses}
use Rattle.rpki_multi.specs.Attestation.{RtaForm, whole_of}
use Rattle.rpki_check.proofs.attestation.read_attestation.Goals as goal

pub returns-in-Ok-decode : goal.returns-in-Ok-decode
returns-in-Ok-decode c =
    let d = c.in-Ok-decode.ensures in
    let r = whole_of c.in-Ok-decode.rta in
    record {
      object = r;
      rest = d.0;
      front = subst (λ (o : List ℕ). IsOnlyFront (RtaForm Der) o r d.0) c.in-Ok.ensures d.1;
      holds = refl;
    }

pub returns-in-Err : goal.returns-in-Err
returns-in-Err c =
    subst (λ (o : List ℕ). Refuses c.in-Err.fault (HasNoFront (RtaForm Der) o)) c.in-Ok.ensures
    c.in-Err.ensures
