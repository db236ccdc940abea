use Rattle.rpki_relying_party.specs.Passes.{setting}
use Rattle.rpki_relying_party.proofs.AlikeCosts.{alike-costs, alike-exceeds}
use Rattle.rpki_relying_party.proofs.OneCost.{one-cost, exceeds-less}
use Rattle.rpki_relying_party.proofs.laws.work_is_one_number.Goals as goal

pub returns-clause-costs : goal.returns-clause-costs
returns-clause-costs g c =
    let s = setting g.R.Repository.finds g.C.Crypto.digest_of g.C.Crypto.is_signed
    c.args.pass.now in
    λ one p q m n e h. one-cost s one q m n (alike-costs s p q e m h)

pub returns-clause-exceeds : goal.returns-clause-exceeds
returns-clause-exceeds g c =
    let s = setting g.R.Repository.finds g.C.Crypto.digest_of g.C.Crypto.is_signed
    c.args.pass.now in
    λ one p q m n e h. exceeds-less s one q m n (alike-exceeds s p q e m h)
