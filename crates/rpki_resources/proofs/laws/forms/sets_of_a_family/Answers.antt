use Rattle.rpki_resources.proofs.Addresses.Aligned.{built, united, intersected}
use Rattle.rpki_resources.proofs.laws.forms.sets_of_a_family.Goals as goal

pub returns-clause-built : goal.returns-clause-built
returns-clause-built c = built

pub returns-clause-united : goal.returns-clause-united
returns-clause-united c = united

pub returns-clause-intersected : goal.returns-clause-intersected
returns-clause-intersected c = intersected
