use Rattle.rpki_der.proofs.Form.Keyed.{distinct-decides}
use Rattle.rpki_der.proofs.laws.keyed.distinct_items.Goals as goal

pub returns : goal.returns
returns g c = λ items. distinct-decides g.I.Saying.key items
