use Rattle.std.proofs.Common.{◌<◌, ◌^◌, length, sym, subst, ◌∙◌}
use Rattle.rpki_der.specs.declared.mode.Mode.TheVariants.{Der}
use Rattle.rpki_tagged.specs.Attestation.{Attestation}
use Rattle.rpki_multi.specs.Attestation.{RtaForm}
use Rattle.rpki_multi.specs.Multi.{KeptMulti, AreIn, CarriedIn, multi_of}
use Rattle.rpki_multi.specs.Written.{multi_contents, multi_octets}
use Rattle.rpki_multi.proofs.Builds.{not-short}
use Rattle.rpki_multi.proofs.builder.RtaBuilder.finalize.Goals as goal

pub of-requires : goal.of-requires
of-requires c = c.into_object-signed.ensures.rta

pub returns-in-Err-encoded_len-clause-refused : goal.returns-in-Err-encoded_len-clause-refused
returns-in-Err-encoded_len-clause-refused c =
    let made = c.into_object-signed.ensures in
    let value = c.encode_ref.ensures.value in
    subst (λ (m : KeptMulti). CarriedIn Der m × ¬ (length (multi_contents m) < 2 ^ 32))
    (value ∙ made.object)
    (not-short c.encode_ref.result c.in-Err-encoded_len.field-0
    (subst (λ (m : KeptMulti). AreIn Der m) (sym value) made.rta.0) c.in-Err-encoded_len.ensures)

pub returns-in-Ok-encoded_len-clause-written : goal.returns-in-Ok-encoded_len-clause-written
returns-in-Ok-encoded_len-clause-written c =
    let made = c.into_object-signed.ensures in
    let a : Attestation = c.into_object-signed.result.1 in
    let short = subst (λ (m : KeptMulti). length (multi_contents m) < 2 ^ 32)
    c.encode_ref.ensures.value c.in-Ok-encoded_len.ensures.2 in
    subst (λ (b : Attestation). RtaForm Der (multi_octets c.args.self.signed)
    (record { signed = multi_of c.args.self.signed; content = b })) made.content
    (subst (λ (m : KeptMulti). RtaForm Der (multi_octets m)
    (record { signed = multi_of m; content = a })) made.object
    (c.encode_ref.ensures.written made.rta.0 short, made.rta.1))
