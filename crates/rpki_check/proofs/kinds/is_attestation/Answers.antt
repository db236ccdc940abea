use Rattle.std.proofs.Common.{ℕ, List, refl, subst}
use Rattle.rpki_der.specs.declared.mode.Mode.TheVariants.{Der}
use Rattle.rpki_der.specs.Form.Decodes.{IsOnlyFront}
use Rattle.rpki_multi.specs.Multi.{MultiForm, multi_of}
use Rattle.rpki_check.proofs.Naming.{no-attestation}
use Rattle.rpki_validation.proofs.Steps.{false-only}
use Rattle.rpki_check.proofs.kinds.is_attestation.Goals as goal

pub returns-in-Err-Malformed : goal.returns-in-Err-Malformed
returns-in-Err-Malformed c =
    false-only (no-attestation c.args.octets.now _ c.in-Ok.ensures
    (rw c.in-Err-Malformed.field-0-is at c.in-Err-Malformed.ensures.decodes))

pub returns-in-Err-Content : goal.returns-in-Err-Content
returns-in-Err-Content c =
    false-only (no-attestation c.args.octets.now _ c.in-Ok.ensures
    (rw c.in-Err-Content.field-0-is at c.in-Err-Content.ensures.decodes))

pub returns : goal.returns
returns c =
    let d = c.in-Ok-decode.ensures.decodes in
    let m = multi_of c.in-Ok-decode.object in (
      λ t. record {
        object = m;
        rest = d.0;
        front = subst (λ (o : List ℕ). IsOnlyFront (MultiForm Der) o m d.0) c.in-Ok.ensures d.1;
        holds = tt;
      },
      λ h. refl,
    )
