-- Octets after a value.
use Rattle.std.specs.Prelude.{◌≡◌, ℕ, List, ◌++◌}
use Rattle.rpki_der.specs.declared.mode.Mode.{Mode}
use Rattle.rpki_der.specs.Grammar.{Value, Front, HasNoFront}

-- Octets after a value in the form change nothing. Only `whole` says something of the form itself:
-- where one whole value stands first, and some beginning of all the octets is in the form, this
-- beginning is that value, and what follows the value is left. The other two follow. What octets
-- begin with, they begin with whatever comes after them, which is left too (`left`): this is so of
-- any form. And by `whole`, a value no beginning of which is in the form has none whatever comes
-- after it (`refused`).
pub record LeavesOctetsAfter {X : Type 0} (mode : Mode) (form : List ℕ → X → Type 0) : Type 0 where
  pub left : (octets more : List ℕ) (x : X) (rest : List ℕ) → Front form octets x rest
      → Front form (octets ++ more) x (rest ++ more)
  pub whole : (octets contents more : List ℕ) (tag : ℕ) (x : X) (rest : List ℕ)
      → Value mode octets tag contents → Front form (octets ++ more) x rest
      → form octets x × (rest ≡ more)
  pub refused : (octets contents more : List ℕ) (tag : ℕ) → Value mode octets tag contents
      → HasNoFront form octets → HasNoFront form (octets ++ more)
