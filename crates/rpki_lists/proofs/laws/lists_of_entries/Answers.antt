use Rattle.rpki_lists.proofs.Exact.{list-part, list-reading}
use Rattle.rpki_lists.proofs.laws.lists_of_entries.Goals as goal

pub returns-clause-part : goal.returns-clause-part
returns-clause-part g c = λ first part. list-part part

pub returns-clause-reading : goal.returns-clause-reading
returns-clause-reading g c = λ first part. list-reading part
