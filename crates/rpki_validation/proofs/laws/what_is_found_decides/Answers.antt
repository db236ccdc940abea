use Rattle.rpki_der.specs.declared.mode.Mode.TheVariants.{Der}
use Rattle.rpki_files.specs.Checklist.{ChecklistForm}
use Rattle.rpki_files.specs.Checklist.Checks.{checklist_kind}
use Rattle.rpki_files.specs.Manifest.{ManifestForm}
use Rattle.rpki_files.specs.Manifest.Checks.{manifest_kind}
use Rattle.rpki_routes.specs.Aspa.Checks.{aspa_kind}
use Rattle.rpki_routes.specs.Aspa.Form.{AspaForm}
use Rattle.rpki_routes.specs.Roa.Checks.{roa_kind}
use Rattle.rpki_routes.specs.Roa.Form.{RoaForm}
use Rattle.rpki_validation.proofs.Decided.{decided, rta-decided}
use Rattle.rpki_validation.proofs.Refused.{list-not, locator-not}
use Rattle.rpki_validation.proofs.Single.{next-not}
use Rattle.rpki_validation.proofs.laws.what_is_found_decides.Goals as goal

pub returns-clause-roas : goal.returns-clause-roas
returns-clause-roas c = decided roa_kind RoaForm

pub returns-clause-aspas : goal.returns-clause-aspas
returns-clause-aspas c = λ limit. decided aspa_kind (AspaForm limit)

pub returns-clause-manifests : goal.returns-clause-manifests
returns-clause-manifests c = λ rule. decided manifest_kind (ManifestForm rule Der)

pub returns-clause-checklists : goal.returns-clause-checklists
returns-clause-checklists c = decided checklist_kind (ChecklistForm Der)

pub returns-clause-attestations : goal.returns-clause-attestations
returns-clause-attestations c = rta-decided

pub returns-clause-certificates : goal.returns-clause-certificates
returns-clause-certificates c =
    λ g octets v fault. next-not g.moment octets g.issuer g.lists.items v fault

pub returns-clause-lists : goal.returns-clause-lists
returns-clause-lists c = list-not

pub returns-clause-locators : goal.returns-clause-locators
returns-clause-locators c = locator-not
