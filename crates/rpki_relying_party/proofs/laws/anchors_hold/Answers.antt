use Rattle.rpki_relying_party.specs.Passes.{setting}
use Rattle.rpki_relying_party.proofs.Holding.{anchor-still, anchor-still-good}
use Rattle.rpki_relying_party.proofs.laws.anchors_hold.Goals as goal

pub returns-clause-good : goal.returns-clause-good
returns-clause-good g c = anchor-still-good (setting g.R.Repository.finds g.C.Crypto.digest_of
    g.C.Crypto.is_signed c.args._pass.now)

pub returns-clause-first : goal.returns-clause-first
returns-clause-first g c = anchor-still (setting g.R.Repository.finds g.C.Crypto.digest_of
    g.C.Crypto.is_signed c.args._pass.now)
