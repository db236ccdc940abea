use Rattle.std.proofs.Common.{◌++◌, ◌∙◌, List, ap, refl, string_bytes}
use Rattle.std.specs.List.{flat_map}
use Rattle.rpki_multi.specs.Attestation.{KeptWhole, whole_of}
use Rattle.rpki_multi.specs.Multi.{KeptMulti, multi_of}
use Rattle.rpki_show.specs.Dated.{DatedList}
use Rattle.rpki_show.specs.Texts.Certificate.{certificate_text}
use Rattle.rpki_show.specs.Texts.Crl.{crl_text}
use Rattle.rpki_show.specs.Texts.Rta.{rta_text}
use Rattle.rpki_show.proofs.Grown.{grown}
use Rattle.rpki_show.proofs.texts.rta.push_whole_rta.Goals as goal

pub returns : goal.returns
returns c =
    let r = c.push_lists.result in
    let old = c.args.text.now in
    let shown = c.push_rta.new.text in
    let new = c.push_lists.new.text in
    let rta = c.args.rta.now.rta in
    grown r old shown new (rta_text (whole_of rta)) _ _
    (c.in_ok-push_rta.ensures
    ∙ ap (λ (k : KeptWhole). string_bytes old ++ rta_text (whole_of k)) c.rta-plain.ensures)
    (grown r shown c.push_certificates.new.text new
    (flat_map certificate_text (multi_of rta.signed).certs) _ _
    (c.in_ok-push_certificates.ensures
    ∙ ap (λ (m : KeptMulti). string_bytes shown ++ flat_map certificate_text (multi_of m).certs)
    (c.signed.ensures.value ∙ ap (λ (k : KeptWhole). k.signed) c.rta-plain.ensures))
    c.push_lists.ensures
    (ap (λ (lists : List DatedList). flat_map crl_text lists) c.lists.ensures))
    refl
