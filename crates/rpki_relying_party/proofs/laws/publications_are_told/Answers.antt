use Rattle.rpki_relying_party.specs.Passes.{setting}
use Rattle.rpki_relying_party.proofs.Publications.{payload-told, ca-told}
use Rattle.rpki_relying_party.proofs.laws.publications_are_told.Goals as goal

pub returns-clause-payloads : goal.returns-clause-payloads
returns-clause-payloads g c = payload-told (setting g.R.Repository.finds g.C.Crypto.digest_of
    g.C.Crypto.is_signed c.args.pass.now)

pub returns-clause-cas : goal.returns-clause-cas
returns-clause-cas g c = ca-told (setting g.R.Repository.finds g.C.Crypto.digest_of
    g.C.Crypto.is_signed c.args.pass.now)
