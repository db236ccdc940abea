-- The blocks that the loop has had were put.
use Rattle.std.proofs.Common.{◌≡◌, ◌++◌, take}
use Rattle.std.specs.List.{flat_map}
use Rattle.rpki_relying_party.specs.Place.{ends_of}
use Rattle.rpki_relying_party.proofs.place.put_blocks.Given as goal

abbrev pub invariant-loop-block : goal.invariant-loop-block
invariant-loop-block g l =
    l.key.items
    ≡ l.fn.key.items ++ flat_map (ends_of g.T.Number.number) (take l.block-index l.blocks)
