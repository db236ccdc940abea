use Rattle.rpki_der.specs.declared.mode.Mode.TheVariants.{Der}
use Rattle.rpki_files.specs.Checklist.{ChecklistForm}
use Rattle.rpki_files.specs.Checklist.Checks.{checklist_kind}
use Rattle.rpki_files.specs.Manifest.{ManifestForm}
use Rattle.rpki_files.specs.Manifest.Checks.{manifest_kind}
use Rattle.rpki_routes.specs.Aspa.Checks.{aspa_kind}
use Rattle.rpki_routes.specs.Aspa.Form.{AspaForm}
use Rattle.rpki_routes.specs.Roa.Checks.{roa_kind}
use Rattle.rpki_routes.specs.Roa.Form.{RoaForm}
use Rattle.rpki_check.specs.Files.{checked_files, listed_files}
use Rattle.rpki_check.specs.Grounds.{manner_in}
use Rattle.rpki_check.specs.Rows.{numbers, payloads}
use Rattle.rpki_check.proofs.Answered.{edition-tells, files-tell, object-tells, objects-tell}
use Rattle.rpki_check.proofs.Answered.{rows-tell}
use Rattle.rpki_check.proofs.laws.calls_decide.Goals as goal

pub returns-clause-object : goal.returns-clause-object
returns-clause-object c = object-tells

pub returns-clause-objects : goal.returns-clause-objects
returns-clause-objects c = objects-tell

pub returns-clause-roas : goal.returns-clause-roas
returns-clause-roas c = rows-tell roa_kind (λ q. RoaForm) payloads

pub returns-clause-aspas : goal.returns-clause-aspas
returns-clause-aspas c = rows-tell aspa_kind (λ q. AspaForm (manner_in q).limit) numbers

pub returns-clause-manifests : goal.returns-clause-manifests
returns-clause-manifests c =
    files-tell manifest_kind (λ q. ManifestForm (manner_in q).names Der) listed_files

pub returns-clause-editions : goal.returns-clause-editions
returns-clause-editions c = edition-tells

pub returns-clause-checklists : goal.returns-clause-checklists
returns-clause-checklists c = files-tell checklist_kind (λ q. ChecklistForm Der) checked_files
