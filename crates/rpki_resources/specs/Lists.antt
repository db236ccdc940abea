-- Lists of values that are read to their end.
use Rattle.std.specs.Prelude.{◌≡◌, ℕ, ◌<◌, List, length, Some}
use Rattle.rpki_der.specs.declared.mode.Mode.{Mode}
use Rattle.rpki_der.specs.Read.Parse.{Parser}

-- each value that p reads takes an octet at least
abbrev pub TakesOctets : {X : Type 0} → Parser X → Type 0
TakesOctets {X} p = (mode : Mode) (octets : List ℕ) (x : X) (rest : List ℕ)
    → p mode octets ≡ Some (x, rest) → length rest < length octets
