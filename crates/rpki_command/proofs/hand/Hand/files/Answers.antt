use Rattle.std.proofs.Common.{◌∙◌, refl, Some, None}
use Rattle.std.proofs.lemmas.Slice.Zip.{Zip-more, either_empty_from_Zip}
use Rattle.rpki_command.proofs.Holding.{hand-more, hand-all}
use Rattle.rpki_command.proofs.hand.Hand.files.Goals as goal

pub loop-pair-preserved : goal.loop-pair-preserved
loop-pair-preserved c =
    let z = Zip-more c.loop-pair.pair-iterator c.next.new.self
    (Some (c.in-Some.pair, c.in-Some.octets)) (c.in-Some.pair, c.in-Some.octets) refl
    c.in-Some.ensures.steps in
    let items = c.in_ok-push.ensures.items in
    rw items (hand-more c.loop-pair.files.items c.as_bytes.result c.as_slice.result _ _ _ _
    c.in-Some.pair.now c.in-Some.octets.now c.args.self.now c.loop-pair.invariant z.0 z.1
    (c.as_bytes.ensures.value ∙ c.name_of.ensures) c.as_slice.ensures)

pub returns : goal.returns
returns c = hand-all c.loop-pair.files.items _ _ c.args.self.now c.loop-pair.invariant
    (either_empty_from_Zip c.loop-pair.pair-iterator c.next.new.self None refl
    c.in-None.ensures.steps)
