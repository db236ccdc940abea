use Rattle.std.proofs.Common.{rules, subst}
use Rattle.rpki_certs.specs.Cert.{KeptCertificate}
use Rattle.rpki_relying_party.specs.Under.{SaysOf}
use Rattle.rpki_relying_party.proofs.under.aspa_under.Goals as goal

pub returns-clause-first : goal.returns-clause-first
returns-clause-first g c =
    c.aspa_asking.ensures.first c.args.list.now.list
    (λ k said h. subst (λ (x : KeptCertificate). SaysOf c.args.list.now.list x said) h.2
    (search rules))

pub returns-clause-exact : goal.returns-clause-exact
returns-clause-exact g c =
    c.aspa_asking.ensures.exact c.args.list.now.list
    (λ k said h. subst (λ (x : KeptCertificate). SaysOf c.args.list.now.list x said) h.2
    (search rules))
