use Rattle.std.proofs.Common.{List, ℕ, inl, inr, ◌∙◌}
use Rattle.std.specs.Int.{w64, to_be_bytes}
use Rattle.rpki_examples.specs.Publication.{AreUnsigned, AspaFits, IsUnsignedAspa}
use Rattle.rpki_examples.specs.Publication.{IsUnsignedManifest, IsUnsignedRoa, ManifestFits}
use Rattle.rpki_examples.specs.Publication.{ObjectsFit, RoaFits, by_stand_in}
use Rattle.rpki_examples.specs.declared.publication.Published.{Published}
use Rattle.rpki_examples.proofs.Publications.{counts-later, of-part}
use Rattle.rpki_examples.proofs.publication.objects_of.Goals as goal

pub returns-in-Err-clause-refused : goal.returns-in-Err-clause-refused
returns-in-Err-clause-refused c =
    let key : List ℕ = to_be_bytes w64 c.args.key in
    let by = by_stand_in c.args.check.now in
    let told = c.args.told in
    of-part (IsUnsignedRoa key told.roa) (AreUnsigned key told) (RoaFits key told.roa by)
    (ObjectsFit key told by) (λ e h. inl h) (λ fits. fits.roa) c.in-Err.error
    c.in-Err.ensures.refused

pub returns-in-Err-aspa_of-clause-refused : goal.returns-in-Err-aspa_of-clause-refused
returns-in-Err-aspa_of-clause-refused c =
    let key : List ℕ = to_be_bytes w64 c.args.key in
    let by = by_stand_in c.args.check.now in
    let told = c.args.told in
    of-part (IsUnsignedAspa key told.limit told.aspa) (AreUnsigned key told)
    (AspaFits key told.aspa by) (ObjectsFit key told by) (λ e h. inr (inl h))
    (λ fits. fits.aspa) c.in-Err-aspa_of.error c.in-Err-aspa_of.ensures.refused

pub returns-in-Err-manifest_of-clause-refused : goal.returns-in-Err-manifest_of-clause-refused
returns-in-Err-manifest_of-clause-refused c =
    let key : List ℕ = to_be_bytes w64 c.args.key in
    let by = by_stand_in c.args.check.now in
    let told = c.args.told in
    of-part (IsUnsignedManifest key told.manifest) (AreUnsigned key told)
    (ManifestFits key told.manifest by) (ObjectsFit key told by) (λ e h. inr (inr h))
    (λ fits. fits.manifest) c.in-Err-manifest_of.error c.in-Err-manifest_of.ensures.refused

pub returns-in-Err-manifest_of-clause-cause : goal.returns-in-Err-manifest_of-clause-cause
returns-in-Err-manifest_of-clause-cause c =
    counts-later (List ℕ) Published _ _ _ c.in-Err-manifest_of.error
    (c.in-Ok-aspa_of.ensures.cause ∙ c.in-Ok.ensures.cause) c.in-Err-manifest_of.ensures.cause
