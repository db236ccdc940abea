use Rattle.std.proofs.Common.{List, subst}
use Rattle.rpki_crls.specs.Crl.{KeptCrl}
use Rattle.rpki_validation.specs.Issuer.{IsNextCa}
use Rattle.rpki_validation.proofs.certificate.ca_on.Goals as goal

pub returns : goal.returns
returns c =
    let g = c.args.grounds.now in
    subst (λ (ls : List KeptCrl). IsNextCa ls g.moment g.issuer c.args.octets.now
    c.next_under.result) c.deref.ensures.value c.next_under.ensures
