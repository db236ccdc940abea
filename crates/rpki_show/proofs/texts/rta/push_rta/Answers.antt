use Rattle.std.proofs.Common.{◌++◌, ◌∙◌, ap, string_bytes}
use Rattle.rpki_tagged.specs.Attestation.{Attestation}
use Rattle.rpki_multi.specs.Multi.{KeptMulti, multi_of}
use Rattle.rpki_show.specs.Texts.Rta.{attestation_text, carried_text}
use Rattle.rpki_show.proofs.Grown.{grown}
use Rattle.rpki_show.proofs.texts.rta.push_rta.Goals as goal

pub returns : goal.returns
returns c = grown c.push_carried.result c.args.text.now c.push_attestation.new.text
    c.push_carried.new.text (attestation_text c.args.rta.now.content) _ _
    (c.in_ok-push_attestation.ensures
    ∙ ap (λ (a : Attestation). string_bytes c.args.text.now ++ attestation_text a)
    c.content.ensures.value)
    c.push_carried.ensures
    (ap (λ (m : KeptMulti). carried_text (multi_of m)) c.signed.ensures.value)
