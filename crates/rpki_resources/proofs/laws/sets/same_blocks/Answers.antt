use Rattle.rpki_resources.proofs.Sets.Same.{same_blocks}
use Rattle.rpki_resources.proofs.laws.sets.same_blocks.Goals as goal

pub returns : goal.returns
returns g c = λ a b. same_blocks g.T.Number.number g.met.T.Number.exact 0 0 a b
