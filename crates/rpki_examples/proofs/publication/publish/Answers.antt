use Rattle.std.proofs.Common.{◌⊎◌, List, ℕ, inl, inr, sym}
use Rattle.std.specs.Int.{w64, to_be_bytes}
use Rattle.rpki_examples.specs.Publication.{AnchorFits, AreUnsigned, IsFitPlan}
use Rattle.rpki_examples.specs.Publication.{IsUnsignedAuthority, ObjectsFit, by_stand_in}
use Rattle.rpki_examples.proofs.Published.{by-desk}
use Rattle.rpki_examples.proofs.Publications.{objects-fit, of-part}
use Rattle.rpki_examples.proofs.publication.publish.Goals as goal

pub returns-in-Err-clause-refused : goal.returns-in-Err-clause-refused
returns-in-Err-clause-refused c =
    let key : List ℕ = to_be_bytes w64 c.args.key in
    let told = c.args.told in
    of-part (IsUnsignedAuthority key told.anchor told.list)
    (λ e. IsUnsignedAuthority key told.anchor told.list e ⊎ AreUnsigned key told.objects e)
    (AnchorFits key told.anchor c.args.now) (IsFitPlan key told c.args.now) (λ e h. inl h)
    (λ fits. fits.anchor) c.in-Err.error c.in-Err.ensures.refused

pub returns-in-Err-objects_of-clause-refused : goal.returns-in-Err-objects_of-clause-refused
returns-in-Err-objects_of-clause-refused c =
    let key : List ℕ = to_be_bytes w64 c.args.key in
    let told = c.args.told in
    of-part (AreUnsigned key told.objects)
    (λ e. IsUnsignedAuthority key told.anchor told.list e ⊎ AreUnsigned key told.objects e)
    (ObjectsFit key told.objects (by_stand_in c.new-check.result))
    (IsFitPlan key told c.args.now) (λ e h. inr h)
    (λ fits. by-desk (λ d. ObjectsFit key told.objects (by_stand_in d)) _ _
    (sym c.new-check.ensures)
    (objects-fit key told c.args.now c.in-Ok.anchor c.in-Ok.list.list c.in-Ok.ensures.anchor
    c.in-Ok.ensures.list c.pushed_are_revoked.ensures fits))
    c.in-Err-objects_of.error c.in-Err-objects_of.ensures.refused
