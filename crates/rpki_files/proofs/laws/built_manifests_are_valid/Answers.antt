use Rattle.rpki_files.specs.Manifest.Signed.{inheriting}
use Rattle.rpki_files.specs.Manifest.Checks.{ct_manifest}
use Rattle.rpki_files.proofs.Manifests.Signed.{inherits-all, inherits-some}
use Rattle.rpki_files.proofs.laws.built_manifests_are_valid.Goals as goal

pub returns-clause-valid : goal.returns-clause-valid
returns-clause-valid c = λ digest verdict b key content s now built fit.
    c.built_objects_are_valid.ensures.published digest verdict (inheriting b) key ct_manifest
    content s now built fit

pub returns-clause-good : goal.returns-clause-good
returns-clause-good c = λ digest verdict mode b key content o now built fit v certificate. record {
  valid = c.built_objects_are_valid.ensures.published digest verdict (inheriting b) key ct_manifest
      content o.object.signed now built fit;
  certificate = certificate;
  covered = tt;
}

pub returns-clause-named : goal.returns-clause-named
returns-clause-named c = inherits-some

pub returns-clause-allowed : goal.returns-clause-allowed
returns-clause-allowed c = inherits-all
