-- The entries of a revocation list. The sections are those of RFC 5280, where no other RFC is
-- named.
use Rattle.std.specs.Prelude.{ℕ, List, [], ◌∷◌, Some}
use Rattle.rpki_der.specs.declared.mode.Mode.{Mode}
use Rattle.rpki_der.specs.Grammar.{ListOf, Optional, Skipped, Within}
use Rattle.rpki_der.specs.Numbers.{MAX_DEPTH}
use Rattle.rpki_der.specs.Form.Made.{Default, Ignored, default_at}
use Rattle.rpki_der.specs.Form.Parts.{Sequence, SequenceOf, sequence_at, sequence_of_at}
use Rattle.rpki_der.specs.Read.Parse.{Parser, ◌>>=◌, optional, skip_all_at, u160_at}
use Rattle.rpki_der.specs.Tags.{SEQUENCE}
use Rattle.rpki_basics.specs.Serial.{SerialForm}
use Rattle.rpki_basics.specs.Time.Form.{TimeForm}
use Rattle.rpki_basics.specs.Time.Read.{time_at}

-- crlEntryExtensions: a SEQUENCE of values that are skipped (5.1). That an entry may have any,
-- against RFC 6487, section 5, is this project's own rule.
abbrev pub EntryExtensionsForm : Mode → List ℕ → Unit {0} → Type 0
EntryExtensionsForm mode octets _ = Within mode SEQUENCE (ListOf (Skipped mode MAX_DEPTH)) octets

-- SEQUENCE { userCertificate, revocationDate Time, crlEntryExtensions OPTIONAL } (5.1), of which
-- the serial number counts.
abbrev pub CrlEntryForm : Mode → List ℕ → ℕ → Type 0
CrlEntryForm mode octets serial = Sequence mode (
    (λ o. SerialForm mode o serial)
    ∷ Ignored (TimeForm mode)
    ∷ Ignored (Optional (EntryExtensionsForm mode))
    ∷ []) octets

-- revokedCertificates: SEQUENCE OF these, OPTIONAL (5.1). Where it is missing there is no entry.
-- That it may have no entry, against 5.1.2.6, and that a serial number may stand twice, are this
-- project's own rules.
abbrev pub RevokedForm : Mode → List ℕ → List ℕ → Type 0
RevokedForm mode = Default [] (SequenceOf mode (CrlEntryForm mode))

-- ---- as functions

-- what stands in an entry
unfoldable pub crl_entry_fields_at : Parser ℕ
crl_entry_fields_at mode bytes = do
  serial ← u160_at mode bytes
  time ← time_at mode serial.1
  extensions ← optional SEQUENCE (sequence_at skip_all_at) mode time.1
  Some (serial.0, extensions.1)

-- an entry
abbrev pub crl_entry_at : Parser ℕ
crl_entry_at = sequence_at crl_entry_fields_at

-- the serial numbers of the entries
abbrev pub revoked_at : Parser (List ℕ)
revoked_at = default_at [] SEQUENCE (sequence_of_at SEQUENCE crl_entry_at)
