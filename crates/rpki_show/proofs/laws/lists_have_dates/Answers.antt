use Rattle.rpki_show.proofs.Dates.{list-dated, list-plain}
use Rattle.rpki_show.proofs.laws.lists_have_dates.Goals as goal

pub returns-clause-dated : goal.returns-clause-dated
returns-clause-dated c = list-dated

pub returns-clause-plain : goal.returns-clause-plain
returns-clause-plain c = list-plain
