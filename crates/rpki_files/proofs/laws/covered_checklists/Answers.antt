use Rattle.rpki_files.proofs.laws.covered_checklists.Goals as goal
use Rattle.rpki_files.proofs.Checklists.Meaning.{checklist-covered}

pub returns : goal.returns
returns c = checklist-covered
