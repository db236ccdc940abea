use Rattle.std.proofs.Common.{rules, subst}
use Rattle.rpki_certs.specs.Cert.{KeptCertificate}
use Rattle.rpki_examples.specs.Received.{SaysOf}
use Rattle.rpki_examples.proofs.received.checklist_under.Goals as goal

pub returns : goal.returns
returns g c =
    c.checklist_asking.ensures c.args.list.now.list
    (λ k said h. subst (λ (x : KeptCertificate). SaysOf c.args.list.now.list x said) h.2
    (search rules))
