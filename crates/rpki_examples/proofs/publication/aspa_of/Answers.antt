use Rattle.std.proofs.Common.{List, ℕ, refl}
use Rattle.std.specs.Int.{w64, to_be_bytes}
use Rattle.rpki_examples.specs.Publication.{AspaFits, IsUnsignedAspa, by_stand_in}
use Rattle.rpki_examples.proofs.Publications.{fits-or, stand-in-takes}
use Rattle.rpki_examples.proofs.publication.aspa_of.Goals as goal

pub returns-clause-refused : goal.returns-clause-refused
returns-clause-refused c =
    let key : List ℕ = to_be_bytes w64 c.args.key in
    let by = by_stand_in c.args.check.now in
    fits-or (IsUnsignedAspa key c.args.limit c.args.told) _ (AspaFits key c.args.told by)
    c.aspa.result
    (λ fits. c.aspa.ensures.passes (stand-in-takes by refl refl c.stand_ins_agree.ensures)
    fits.builder fits.customer) c.aspa.ensures.refused
