-- What reading a locator answers.
use Rattle.std.specs.Prelude.{ℕ, List, Option, Result, Ok, Err}
use Rattle.std.specs.Io.KnownBytes.{Consumes, IsAtEnd}
use Rattle.rpki_tal.specs.declared.error.ReadError.{ReadError}
use Rattle.rpki_tal.specs.declared.error.ReadError.TheVariants.{Io, Memory}
use Rattle.rpki_tal.specs.Tal.{Locator}
use Rattle.rpki_tal.specs.Form.{IsOnlyTal, IsNoTal}
use Rattle.rpki_tal.specs.Faults.{IsFault}

-- The source has given this text, and it has ended. A source that does not tell its octets may have
-- given any text.
pub record HasGiven (old new : Option (List ℕ)) (text : List ℕ) : Type 0 where
  pub given : Consumes old new text
  pub ended : IsAtEnd new

-- All that the source gives is no locator, for this fault.
abbrev pub GivesNoTal : Option (List ℕ) → Option (List ℕ) → ReadError → Type 0
GivesNoTal old new e = (text : List ℕ) × HasGiven old new text × IsFault text e × IsNoTal text

-- All that the source gives is this locator, or it is none, for this fault. That a call of the
-- source fails, or memory runs out, may come before the end.
abbrev pub ReadsTal : Option (List ℕ) → Option (List ℕ) → Result Locator ReadError → Type 0
ReadsTal old new (Ok tal) =
    (text : List ℕ) × HasGiven old new text × IsOnlyTal text tal.uris tal.key
ReadsTal old new (Err Io) = Unit {0}
ReadsTal old new (Err Memory) = Unit {0}
ReadsTal old new (Err e) = GivesNoTal old new e

-- How many calls of the source have failed: one where the answer is Io, and else none.
abbrev pub failed_calls : Result Locator ReadError → ℕ
failed_calls (Err Io) = 1
failed_calls _ = 0
