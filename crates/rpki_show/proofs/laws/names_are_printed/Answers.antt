use Rattle.rpki_show.proofs.Printed.{file-printed, portable-printed}
use Rattle.rpki_show.proofs.laws.names_are_printed.Goals as goal

pub returns-clause-manifest : goal.returns-clause-manifest
returns-clause-manifest c = file-printed

pub returns-clause-checklist : goal.returns-clause-checklist
returns-clause-checklist c = portable-printed
