use Rattle.rpki_basics.specs.declared.limits.ManifestRule.TheVariants.{Any, Registered}
use Rattle.rpki_basics.specs.declared.limits.ProviderLimit.TheVariants.{Narrow, Wide}
use Rattle.rpki_der.specs.declared.mode.Mode.TheVariants.{Der}
use Rattle.rpki_files.specs.Manifest.{ManifestForm}
use Rattle.rpki_files.specs.Manifest.Checks.{ct_manifest}
use Rattle.rpki_routes.specs.Aspa.Form.{AspaForm}
use Rattle.rpki_routes.specs.Aspa.Checks.{ct_aspa}
use Rattle.rpki_signed.proofs.Wider.{widened, manifest-wider, aspa-wider}
use Rattle.rpki_signed.proofs.laws.narrow_objects_are_wide.Goals as goal

pub returns-clause-manifests : goal.returns-clause-manifests
returns-clause-manifests c =
    widened (ManifestForm Registered Der) (ManifestForm Any Der) manifest-wider ct_manifest

pub returns-clause-aspas : goal.returns-clause-aspas
returns-clause-aspas c = widened (AspaForm Narrow) (AspaForm Wide) aspa-wider ct_aspa
