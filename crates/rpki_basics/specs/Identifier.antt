-- Identifiers of keys, as they stand in a list.
use Rattle.std.specs.Prelude.{◌≡◌, ◌==◌, ℕ, List, Some, length}
use Rattle.rpki_der.specs.declared.mode.Mode.{Mode}
use Rattle.rpki_der.specs.Grammar.{Value}
use Rattle.rpki_der.specs.Read.Parse.{Parser, primitive, tested}
use Rattle.rpki_der.specs.Tags.{OCTET_STRING}
use Rattle.rpki_der.specs.Write.Written.{value_octets}

-- how many octets an identifier has: those of a SHA-1 digest (RFC 6487, section 4.8.2)
abbrev pub identifier_length : ℕ
identifier_length = 20

-- SubjectKeyIdentifier ::= OCTET STRING (RFC 5280, section 4.2.1.2) of 20 octets (RFC 6487, section
-- 4.8.2). That it has one piece in BER too is this project's own rule.
abbrev pub KeyIdentifierForm : Mode → List ℕ → List ℕ → Type 0
KeyIdentifierForm mode octets id = Value mode octets OCTET_STRING id × (length id ≡ identifier_length)

-- the identifier of a key
abbrev pub key_identifier_at : Parser (List ℕ)
key_identifier_at = tested (λ id. length id == identifier_length) (primitive OCTET_STRING Some)

-- the octets that an identifier is written as
abbrev pub key_identifier_octets : List ℕ → List ℕ
key_identifier_octets id = value_octets OCTET_STRING id
