use Rattle.std.proofs.Common.{rules, subst}
use Rattle.rpki_certs.specs.Cert.{KeptCertificate}
use Rattle.rpki_examples.specs.Received.{SaysOf}
use Rattle.rpki_examples.proofs.ByList.{roa-held}
use Rattle.rpki_examples.proofs.received.roa_under.Goals as goal

pub returns-clause-exact : goal.returns-clause-exact
returns-clause-exact g c =
    c.roa_asking.ensures c.args.list.now.list
    (λ k said h. subst (λ (x : KeptCertificate). SaysOf c.args.list.now.list x said) h.2
    (search rules))

pub returns-clause-held : goal.returns-clause-held
returns-clause-held g c =
    roa-held (g.C.Crypto.digest_of c.args.crypto.now) (g.C.Crypto.is_signed c.args.crypto.now)
    c.args.issuer.now c.args.now c.args.octets c.args.list.now.list c.roa_asking.result
    (returns-clause-exact g c)
