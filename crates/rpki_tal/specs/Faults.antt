-- Why a text is no trust anchor locator.
use Rattle.std.specs.Prelude.{◌≡◌, ◌≢◌, ℕ, ◌⊎◌, List, [], ◌∷◌}
use Rattle.rpki_der.specs.declared.mode.Mode.TheVariants.{Der}
use Rattle.rpki_der.specs.declared.error.DecodeError.{DecodeError}
use Rattle.rpki_der.specs.declared.error.DecodeError.TheVariants.{Malformed, Content}
use Rattle.rpki_der.specs.declared.error.DecodeError.TheVariants.{Memory as OutOfMemory}
use Rattle.rpki_der.specs.Grammar.{Items, Front, HasNoFront}
use Rattle.rpki_basics.specs.declared.uri.Error.{Error}
use Rattle.rpki_basics.specs.declared.uri.Error.TheVariants.{InvalidCharacters, BadScheme}
use Rattle.rpki_basics.specs.declared.uri.Error.TheVariants.{BadUri as NoUri, Memory as NoMemory}
use Rattle.rpki_basics.specs.Key.{KeyForm}
use Rattle.rpki_tal.specs.declared.error.ReadError.{ReadError}
use Rattle.rpki_tal.specs.declared.error.ReadError.TheVariants.{UnexpectedEof, BadUri}
use Rattle.rpki_tal.specs.declared.error.ReadError.TheVariants.{BadKeyInfoEncoding, BadKeyInfo}
use Rattle.rpki_tal.specs.declared.error.ReadError.TheVariants.{Memory}
use Rattle.rpki_tal.specs.declared.uri.TalUri.{TalUri}
use Rattle.rpki_tal.specs.Lines.{NUMBER_SIGN, IsOneLine, IsLine, IsComment}
use Rattle.rpki_tal.specs.Uri.{IsNoTalUri}
use Rattle.rpki_tal.specs.Form.{IsUriLine, HasComments, HasUris, IsBase64}

-- A comment goes on to the end of the text: its line feed is missing.
abbrev pub EndsInComment : List ℕ → Type 0
EndsInComment text =
    (comments : List (List ℕ)) × (comment : List ℕ)
    × Front (Items IsComment) text comments (NUMBER_SIGN ∷ comment) × IsOneLine comment

-- What follows the URIs goes on to the end of the list: its line feed is missing.
abbrev pub EndsInLine : List ℕ → Type 0
EndsInLine list =
    (uris : List TalUri) × (rest : List ℕ) × Front (Items IsUriLine) list uris rest
    × IsOneLine rest

-- A line with its line feed that follows the URIs is neither empty nor a URI, for this cause.
abbrev pub HasBadLine : List ℕ → Error → Type 0
HasBadLine list cause =
    (uris : List TalUri) × (end : List ℕ) × (line : List ℕ) × (rest : List ℕ)
    × Front (Items IsUriLine) list uris end × Front IsLine end line rest
    × (line ≢ []) × IsNoTalUri line cause

-- The text is no canonical base64.
abbrev pub IsEncodingFault : List ℕ → ReadError → Type 0
IsEncodingFault text BadKeyInfoEncoding = (octets : List ℕ) → ¬ IsBase64 text octets
IsEncodingFault text _ = ⊥

-- The text is base64 of octets that do not begin with a key.
abbrev pub HasOtherOctets : List ℕ → Type 0
HasOtherOctets text =
    (octets : List ℕ) × IsBase64 text octets × HasNoFront (KeyForm Der) octets

-- Why what follows the list has no key: it is no canonical base64, or base64 of octets that do not
-- begin with a key.
abbrev pub IsKeyFault : List ℕ → ReadError → Type 0
IsKeyFault text (BadKeyInfo Malformed) = HasOtherOctets text
IsKeyFault text (BadKeyInfo (Content fault)) = HasOtherOctets text
IsKeyFault text e = IsEncodingFault text e

-- Why what follows the comments is no list of URIs.
abbrev pub IsUrisFault : List ℕ → ReadError → Type 0
IsUrisFault list UnexpectedEof = EndsInLine list
IsUrisFault list (BadUri cause) = HasBadLine list cause
IsUrisFault list _ = ⊥

-- The list of URIs is right, and why what follows it has no key.
abbrev pub HasKeyFault : List ℕ → ReadError → Type 0
HasKeyFault list e =
    (uris : List TalUri) × (rest : List ℕ) × HasUris list uris rest × IsKeyFault rest e

-- Why what follows the comments is no list with a key.
abbrev pub IsListFault : List ℕ → ReadError → Type 0
IsListFault list e = IsUrisFault list e ⊎ HasKeyFault list e

-- Why a text is no locator: a comment lacks its line feed, or what follows the comments is wrong.
abbrev pub IsFault : List ℕ → ReadError → Type 0
IsFault text e =
    (EndsInComment text × (e ≡ UnexpectedEof))
    ⊎ ((list : List ℕ) × HasComments text list × IsListFault list e)

-- The faults are the same. Which fault of a key is named is open.
abbrev pub IsSameFault : ReadError → ReadError → Type 0
IsSameFault (BadKeyInfo cause) (BadKeyInfo other) = Unit {0}
IsSameFault e other = e ≡ other

-- Memory may run out at any time. Any other refusal tells that P holds.
abbrev pub Refuses : ReadError → Type 0 → Type 0
Refuses Memory P = Unit {0}
Refuses _ P = P

-- The fault of a locator in which a URI has this fault.
abbrev pub uri_fault : Error → ReadError
uri_fault InvalidCharacters = BadUri InvalidCharacters
uri_fault BadScheme = BadUri BadScheme
uri_fault NoUri = BadUri NoUri
uri_fault NoMemory = Memory

-- The fault of a locator in which the key has this fault.
abbrev pub key_fault : DecodeError → ReadError
key_fault Malformed = BadKeyInfo Malformed
key_fault (Content fault) = BadKeyInfo (Content fault)
key_fault OutOfMemory = Memory
