use Rattle.rpki_relying_party.specs.Passes.{setting}
use Rattle.rpki_relying_party.proofs.Ending.{below-now}
use Rattle.rpki_relying_party.proofs.laws.payloads_hold_now.Goals as goal

pub returns : goal.returns
returns g c = below-now (setting g.R.Repository.finds g.C.Crypto.digest_of
    g.C.Crypto.is_signed c.args._pass.now)
