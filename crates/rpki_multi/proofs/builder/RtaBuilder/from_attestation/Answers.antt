use Rattle.std.proofs.Common.{◌<◌, ◌^◌, length, ap, subst, ◌∙◌}
use Rattle.rpki_tagged.specs.Attestation.{Attestation, attestation_contents, attestation_octets}
use Rattle.rpki_multi.specs.Built.{IsNotBegun}
use Rattle.rpki_multi.proofs.Builds.{not-begun, begins-with}
use Rattle.rpki_multi.proofs.builder.RtaBuilder.from_attestation.Goals as goal

pub returns-in-Err-clause-refused : goal.returns-in-Err-clause-refused
returns-in-Err-clause-refused c =
    subst (λ (a : Attestation). IsNotBegun a c.in-Err.fault) c.encode_ref.ensures.value
    (not-begun c.encode_ref.result c.in-Err.fault c.in-Err.ensures)

pub invariant_of-result : goal.invariant_of-result
invariant_of-result c =
    let written = c.in-Ok.ensures in
    begins-with c.args.content c.in-Ok-from_vec.octets
    (c.in-Ok-from_vec.ensures.ok ∙ written.0 ∙ ap attestation_octets c.encode_ref.ensures.value)
    (c.encode_ref.ensures.written
    (subst (λ (a : Attestation). length (attestation_contents a) < 2 ^ 32)
    c.encode_ref.ensures.value written.2.0))
