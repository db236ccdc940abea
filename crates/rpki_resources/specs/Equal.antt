-- Blocks that are equal.
use Rattle.std.specs.Prelude.{Bool, ◌&&◌}
use Rattle.rpki_resources.specs.declared.block.Block.{Block}

-- whether two blocks have the same ends
abbrev pub same_ends : {T : Type 0} → (T → T → Bool) → Block T → Block T → Bool
same_ends eq a b = eq a.min b.min && eq a.max b.max
