use Rattle.std.proofs.Common.{ℕ, List, ◌∙◌, ap, sym, subst}
use Rattle.std.specs.List.{flat_map}
use Rattle.std.proofs.lemmas.List.Folds.{flat_map-map}
use Rattle.rpki_certs.specs.Cert.{KeptCertificate}
use Rattle.rpki_show.specs.Grows.{Grows}
use Rattle.rpki_show.specs.Texts.Certificate.{certificate_text}
use Rattle.rpki_show.proofs.texts.rta.push_certificates.Goals as goal

pub returns : goal.returns
returns c =
    subst (λ (lines : List ℕ). Grows c.push_certs.result c.args.text.now c.push_certs.new.text
    lines)
    (ap (λ (ks : List KeptCertificate). flat_map (λ (k : KeptCertificate).
    certificate_text k.certificate) ks) c.certificates.ensures
    ∙ sym (flat_map-map certificate_text (λ (k : KeptCertificate). k.certificate)
    c.args.object.now.certs))
    c.push_certs.ensures
