-- What the right to read octets for good owns.
use Rattle.std.specs.Prelude.{◌≡◌, ℕ, List, []}
use base.Fml.{Fml}
use denote.Builtin.{u8}
use denote.RawPtr.{Ptr, block_ptr, block_of, count_of}
use denote.Slice.{elements_shared}

-- the pointer points into a block
abbrev pub IsPlaced : Ptr → Type 0
IsPlaced p = p ≡ block_ptr (block_of p) (count_of p)

-- the octets at the pointer may be read for good
abbrev pub shown_at : Ptr → List ℕ → Fml
shown_at p octets = elements_shared u8 octets (block_of p) (count_of p) []
