use Rattle.rpki_examples.proofs.Published.{list-signed}
use Rattle.rpki_examples.proofs.authority.list.Goals as goal

pub returns-clause-signed : goal.returns-clause-signed
returns-clause-signed g c = λ verdict takes.
    list-signed (g.S.Signer.may_sign c.args.signer.now) verdict
    (g.S.Signer.key_of c.args.signer.now c.args.key.now) c.args.told takes c.into_crl.result
    c.into_crl.ensures.made c.into_crl.ensures.signed
