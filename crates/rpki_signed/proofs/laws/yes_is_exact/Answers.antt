use Rattle.rpki_der.specs.declared.mode.Mode.TheVariants.{Der}
use Rattle.rpki_files.specs.Checklist.{ChecklistForm}
use Rattle.rpki_files.specs.Checklist.Checks.{checklist_kind}
use Rattle.rpki_files.specs.Manifest.{ManifestForm}
use Rattle.rpki_files.specs.Manifest.Checks.{manifest_kind}
use Rattle.rpki_routes.specs.Aspa.Checks.{aspa_kind}
use Rattle.rpki_routes.specs.Aspa.Form.{AspaForm}
use Rattle.rpki_routes.specs.Roa.Checks.{roa_kind}
use Rattle.rpki_routes.specs.Roa.Form.{RoaForm}
use Rattle.rpki_signed.proofs.Exactness.{headline, rta-headline}
use Rattle.rpki_signed.proofs.laws.yes_is_exact.Goals as goal

pub returns-clause-manifests : goal.returns-clause-manifests
returns-clause-manifests g c = λ rule. headline manifest_kind (ManifestForm rule Der) _

pub returns-clause-roas : goal.returns-clause-roas
returns-clause-roas g c = headline roa_kind RoaForm _

pub returns-clause-aspas : goal.returns-clause-aspas
returns-clause-aspas g c = λ limit. headline aspa_kind (AspaForm limit) _

pub returns-clause-checklists : goal.returns-clause-checklists
returns-clause-checklists g c = headline checklist_kind (ChecklistForm Der) _

pub returns-clause-attestations : goal.returns-clause-attestations
returns-clause-attestations g c = rta-headline
