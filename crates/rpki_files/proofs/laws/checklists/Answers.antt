use Rattle.rpki_files.proofs.Checklists.Exact.{checked-reading, checklist-reading}
use Rattle.rpki_files.proofs.Names.Decided.{portable-below}
use Rattle.rpki_files.proofs.laws.checklists.Goals as goal

pub returns-clause-file : goal.returns-clause-file
returns-clause-file c = checked-reading

pub returns-clause-checklist : goal.returns-clause-checklist
returns-clause-checklist c = checklist-reading

pub returns-clause-ia5 : goal.returns-clause-ia5
returns-clause-ia5 c = portable-below
