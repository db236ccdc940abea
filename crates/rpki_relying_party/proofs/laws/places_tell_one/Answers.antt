use Rattle.rpki_relying_party.specs.Passes.{setting}
use Rattle.rpki_relying_party.proofs.OneTelling.{places-tell, tells-one}
use Rattle.rpki_relying_party.proofs.laws.places_tell_one.Goals as goal

pub returns-clause-alike : goal.returns-clause-alike
returns-clause-alike g c = places-tell (setting g.R.Repository.finds g.C.Crypto.digest_of
    g.C.Crypto.is_signed c.args.pass.now)

pub returns-clause-keyed : goal.returns-clause-keyed
returns-clause-keyed g c = tells-one (setting g.R.Repository.finds g.C.Crypto.digest_of
    g.C.Crypto.is_signed c.args.pass.now)
