use Rattle.std.proofs.Common.{ℕ, List, Ok, subst, string_bytes}
use Rattle.rpki_certs.specs.Cert.{KeptCertificate}
use Rattle.rpki_verdicts.specs.Attested.{PushesChains, PushesRta, certificates, octets_of_chains}
use Rattle.rpki_verdicts.proofs.Carrying.{rta-listed}
use Rattle.rpki_verdicts.proofs.attested.rta_listing.Goals as goal

pub returns-in-Ok-pushed : goal.returns-in-Ok-pushed
returns-in-Ok-pushed g c =
    let verdict = g.C.Crypto.is_signed c.args.crypto.now in
    let pushed = subst (λ (old : List ℕ). PushesChains verdict
    (octets_of_chains c.args.chains.now) old (Ok c.in-Ok.supplied)
    (string_bytes c.push_chains.new.text)) c.new-text.ensures.bytes c.in-Ok.ensures in
    rta-listed verdict c.args.object.now (octets_of_chains c.args.chains.now) c.in-Ok.supplied
    (string_bytes c.push_chains.new.text) (string_bytes c.push_rta-pushed.new.text) pushed
    (subst (λ (supplied : List KeptCertificate). PushesRta verdict (certificates supplied)
    c.args.object.now (string_bytes c.push_chains.new.text) (Ok tt)
    (string_bytes c.push_rta-pushed.new.text)) c.deref.ensures.value c.in-Ok-pushed.ensures)
