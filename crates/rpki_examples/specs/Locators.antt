-- What is answered of a locator that was cut off.
use Rattle.std.specs.Prelude.{◌≡◌, Result, Ok, Err}
use Rattle.rpki_tal.specs.declared.error.ReadError.{ReadError}
use Rattle.rpki_tal.specs.declared.error.ReadError.TheVariants.{Io, Memory, UnexpectedEof}
use Rattle.rpki_tal.specs.Tal.{Locator}

-- The text ends too early, unless a call of its source fails or memory runs out before.
abbrev pub IsCutOff : Result Locator ReadError → Type 0
IsCutOff (Ok tal) = ⊥
IsCutOff (Err Io) = Unit {0}
IsCutOff (Err Memory) = Unit {0}
IsCutOff (Err e) = e ≡ UnexpectedEof
