use Rattle.rpki_der.specs.declared.mode.Mode.TheVariants.{Der}
use Rattle.rpki_der.proofs.Form.Decoders.{decodes}
use Rattle.rpki_show.specs.Dated.{DatedList}
use Rattle.rpki_show.proofs.Lists.{dated-part}
use Rattle.rpki_show.proofs.dated.DatedCrl.decode.Goals as goal

pub returns : goal.returns
returns c =
    decodes dated-part Der c.args.source (λ (d : DatedList). d) c.read_front.result
    (rw c.as_slice.ensures at c.slices_hold_octets.ensures.octets) c.read_front.ensures
