-- Octets that are kept as they are.
use Rattle.std.specs.Prelude.{ℕ, List}
use Rattle.rpki_der.specs.declared.mode.Mode.{Mode}

-- octets that are kept, and the mode that they are kept with: that in which they were read, or any
-- other that a caller named
pub record Kept : Type 0 where
  pub octets : List ℕ
  pub mode : Mode
