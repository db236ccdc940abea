use Rattle.rpki_files.proofs.checklist.object.ResourceSignedChecklistContent.meaning.Goals as goal
use Rattle.rpki_files.proofs.Checklists.Meaning.{checklist-means}

pub returns : goal.returns
returns c = checklist-means
