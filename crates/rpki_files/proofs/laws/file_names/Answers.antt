use Rattle.rpki_files.proofs.Names.Decided.{name-decides, name-below}
use Rattle.rpki_files.proofs.laws.file_names.Goals as goal

pub returns-clause-test : goal.returns-clause-test
returns-clause-test c = name-decides

pub returns-clause-ia5 : goal.returns-clause-ia5
returns-clause-ia5 c = name-below
