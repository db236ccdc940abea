-- One more was put.
use Rattle.std.proofs.Common.{◌∙◌, arith}
use Rattle.rpki_relying_party.specs.Place.{ends_of}
use Rattle.rpki_relying_party.proofs.Keyed.{blocks-more}
use Rattle.rpki_relying_party.proofs.place.put_blocks.Goals as goal

pub loop-block-preserved : goal.loop-block-preserved
loop-block-preserved g c =
    c.in_ok-put_block.ensures
    ∙ blocks-more (ends_of g.T.Number.number) c.args.key.now.items c.loop-block.key.items
    c.args.blocks.now c.loop-block.block-index c.block-item.result (omega arith) c.block-item.is
    c.loop-block.invariant
