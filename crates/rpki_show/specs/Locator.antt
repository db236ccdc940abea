-- What is read of a file that may be a trust anchor locator, and what is said where it is none.
use Rattle.std.specs.Prelude.{ℕ, List, Result, Ok, Err}
use Rattle.rpki_tal.specs.Form.{IsNoTal, IsOnlyTal}
use Rattle.rpki_tal.specs.Tal.{Locator}
use Rattle.rpki_tal.specs.declared.error.ReadError.{ReadError}
use Rattle.rpki_tal.specs.declared.error.ReadError.TheVariants.{Memory, Io, UnexpectedEof, BadUri}
use Rattle.rpki_tal.specs.declared.error.ReadError.TheVariants.{BadKeyInfoEncoding, BadKeyInfo}
use Rattle.rpki_cli.specs.Answer.{Output, out_of_memory, malformed}

-- The octets are the text of this locator, whole, and of no other; or they are that of none, unless
-- memory runs out (RFC 8630, section 2.2).
abbrev pub IsLocatorOf : List ℕ → Result Locator ReadError → Type 0
IsLocatorOf octets (Ok tal) = IsOnlyTal octets tal.uris tal.key
IsLocatorOf octets (Err Memory) = Unit {0}
IsLocatorOf octets (Err fault) = IsNoTal octets

-- What is said of a locator that is refused so: that memory ran out is said as such, and every
-- other fault is malformed.
abbrev pub tal_refusal : ReadError → Output
tal_refusal Memory = out_of_memory
tal_refusal Io = malformed
tal_refusal UnexpectedEof = malformed
tal_refusal (BadUri cause) = malformed
tal_refusal BadKeyInfoEncoding = malformed
tal_refusal (BadKeyInfo cause) = malformed
