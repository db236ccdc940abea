use Rattle.rpki_relying_party.specs.Passes.{setting}
use Rattle.rpki_relying_party.proofs.Refusing.{unread-refused}
use Rattle.rpki_relying_party.proofs.laws.unread_places_are_refused.Goals as goal

pub returns : goal.returns
returns g c = unread-refused (setting g.R.Repository.finds g.C.Crypto.digest_of
    g.C.Crypto.is_signed c.args._pass.now)
