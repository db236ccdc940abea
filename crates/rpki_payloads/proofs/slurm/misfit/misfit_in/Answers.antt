use Rattle.std.proofs.Common.{not, rules, tests}
use Rattle.std.proofs.lemmas.Iterator.{YieldsList-from_slice}
use Rattle.std.proofs.lemmas.Iterator.Search.{position_from_yields_List}
use Rattle.rpki_payloads.proofs.Named.{none-fails}
use Rattle.rpki_payloads.proofs.slurm.misfit.misfit_in.Goals as goal

pub returns : goal.returns
returns g c =
    none-fails g.T.Item.valid c.args.items.now c.position.result
    (position_from_yields_List (λ x. not (g.T.Item.valid x)) _ _ _ c.position.ensures.ran
    (YieldsList-from_slice c.args.items.now cc) (λ x b q k. search (rules, tests)))
