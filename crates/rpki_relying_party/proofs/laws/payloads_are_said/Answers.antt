use Rattle.rpki_relying_party.specs.Passes.{setting}
use Rattle.rpki_relying_party.proofs.Publishing.{said-below}
use Rattle.rpki_relying_party.proofs.laws.payloads_are_said.Goals as goal

pub returns : goal.returns
returns g c = said-below (setting g.R.Repository.finds g.C.Crypto.digest_of
    g.C.Crypto.is_signed c.args._pass.now)
