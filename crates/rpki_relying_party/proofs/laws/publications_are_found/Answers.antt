use Rattle.rpki_relying_party.specs.Passes.{setting}
use Rattle.rpki_relying_party.proofs.Publications.{finds-published}
use Rattle.rpki_relying_party.proofs.laws.publications_are_found.Goals as goal

pub returns : goal.returns
returns g c = finds-published (setting g.R.Repository.finds g.C.Crypto.digest_of
    g.C.Crypto.is_signed c.args._pass.now)
