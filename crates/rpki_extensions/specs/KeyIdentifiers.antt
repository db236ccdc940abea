-- Identifiers of keys. The sections are those of RFC 5280, where no other RFC is named.
use Rattle.std.specs.Prelude.{◌≡◌, ℕ, List, [], ◌∷◌, length, Some, ◌==◌}
use Rattle.rpki_der.specs.declared.mode.Mode.{Mode}
use Rattle.rpki_der.specs.Grammar.{OctetStringOf}
use Rattle.rpki_der.specs.Form.Parts.{Sequence, ImplicitString, sequence_at, implicit_string_at}
use Rattle.rpki_der.specs.Read.Parse.{Parser, ◌>>=◌, octets_of, tested}

-- how many octets an identifier has: those of a SHA-1 digest (RFC 6487, section 4.8.2)
abbrev pub id_length : ℕ
id_length = 20

-- SubjectKeyIdentifier: KeyIdentifier, which is an OCTET STRING (4.2.1.2), of 20 octets (RFC 6487,
-- section 4.8.2)
abbrev pub SubjectKeyForm : Mode → List ℕ → List ℕ → Type 0
SubjectKeyForm mode octets id = OctetStringOf id_length mode octets id

-- keyIdentifier [0] IMPLICIT KeyIdentifier (4.2.1.1), of 20 octets (RFC 6487, section 4.8.3)
abbrev pub KeyIdForm : Mode → List ℕ → List ℕ → Type 0
KeyIdForm mode octets id = ImplicitString 0 mode octets id × (length id ≡ id_length)

-- AuthorityKeyIdentifier: SEQUENCE { keyIdentifier [0] } (4.2.1.1). The name and the serial number
-- of the issuer's certificate, [1] and [2], are not allowed, and the identifier has to be there
-- (RFC 6487, section 4.8.3).
abbrev pub AuthorityKeyForm : Mode → List ℕ → List ℕ → Type 0
AuthorityKeyForm mode octets id = Sequence mode (
    (λ o. KeyIdForm mode o id)
    ∷ []) octets

-- ---- as functions

-- the identifier of the subject's key
abbrev pub subject_key_at : Parser (List ℕ)
subject_key_at = octets_of id_length

-- the identifier under [0]
abbrev pub key_id_at : Parser (List ℕ)
key_id_at = tested (λ id. length id == id_length) (implicit_string_at 0)

-- what stands in the SEQUENCE
unfoldable pub authority_fields_at : Parser (List ℕ)
authority_fields_at mode bytes = do
  id ← key_id_at mode bytes
  Some id

-- the identifier of the issuer's key
abbrev pub authority_key_at : Parser (List ℕ)
authority_key_at = sequence_at authority_fields_at
