use Rattle.std.proofs.Common.{List, All, subst}
use Rattle.rpki_files.specs.Checklist.Files.{Checked, IsNamed}
use Rattle.rpki_files.specs.Checklist.{Checklist}
use Rattle.rpki_files.proofs.Checklists.Named.{checked-named}
use Rattle.rpki_files.proofs.checklist.ResourceSignedChecklist.iter.Goals as goal

pub returns-clause-names : goal.returns-clause-names
returns-clause-names c =
    let named = subst (λ (fs : List Checked). All IsNamed fs)
    c.reader.ensures.list (checked-named c.reader.result c.reader.ensures.entries) in
    subst (λ (l : Checklist). All IsNamed l.files) c.self.view_is named
