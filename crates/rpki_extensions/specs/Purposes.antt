-- The purposes of a key.
use Rattle.std.specs.Prelude.{ℕ, ◌≤◌, List, length, nat_le}
use Rattle.rpki_der.specs.declared.mode.Mode.{Mode}
use Rattle.rpki_der.specs.Grammar.{ObjectIdentifier}
use Rattle.rpki_der.specs.Form.Parts.{SequenceOf, sequence_of_at}
use Rattle.rpki_der.specs.Read.Parse.{Parser, oid_at, tested}
use Rattle.rpki_der.specs.Tags.{OBJECT_IDENTIFIER}

-- ExtKeyUsageSyntax: SEQUENCE SIZE (1..MAX) OF KeyPurposeId, which is an OBJECT IDENTIFIER (RFC
-- 5280, section 4.2.1.12)
abbrev pub PurposesForm : Mode → List ℕ → List (List ℕ) → Type 0
PurposesForm mode octets purposes =
    SequenceOf mode (ObjectIdentifier mode) octets purposes × (1 ≤ length purposes)

-- ---- as functions

-- the purposes, of which there is one at least
abbrev pub purposes_at : Parser (List (List ℕ))
purposes_at =
    tested (λ purposes. nat_le 1 (length purposes)) (sequence_of_at OBJECT_IDENTIFIER oid_at)
