use Rattle.rpki_der.specs.declared.mode.Mode.TheVariants.{Der}
use Rattle.rpki_files.specs.Checklist.{ChecklistForm}
use Rattle.rpki_files.specs.Checklist.Checks.{checklist_kind}
use Rattle.rpki_files.specs.Manifest.{ManifestForm}
use Rattle.rpki_files.specs.Manifest.Checks.{manifest_kind}
use Rattle.rpki_routes.specs.Aspa.Checks.{aspa_kind}
use Rattle.rpki_routes.specs.Aspa.Form.{AspaForm}
use Rattle.rpki_routes.specs.Roa.Checks.{roa_kind}
use Rattle.rpki_routes.specs.Roa.Form.{RoaForm}
use Rattle.rpki_program.proofs.Yes.{says-bad}
use Rattle.rpki_program.proofs.verify.laws.what_is_said_to_be_bad_is_not_good.Goals as goal

pub returns-clause-roas : goal.returns-clause-roas
returns-clause-roas c q g octets cause are h =
    says-bad roa_kind RoaForm c.what_is_found_decides.ensures.roas q g octets h.0 are h.1 h.2

pub returns-clause-aspas : goal.returns-clause-aspas
returns-clause-aspas c q g octets cause are h =
    says-bad aspa_kind (AspaForm q.manner.limit)
    (c.what_is_found_decides.ensures.aspas q.manner.limit) q g octets h.0 are h.1 h.2

pub returns-clause-manifests : goal.returns-clause-manifests
returns-clause-manifests c q g octets cause are h =
    says-bad manifest_kind (ManifestForm q.manner.names Der)
    (c.what_is_found_decides.ensures.manifests q.manner.names) q g octets h.0 are h.1 h.2

pub returns-clause-checklists : goal.returns-clause-checklists
returns-clause-checklists c q g octets cause are h =
    says-bad checklist_kind (ChecklistForm Der) c.what_is_found_decides.ensures.checklists q g
    octets h.0 are h.1 h.2
