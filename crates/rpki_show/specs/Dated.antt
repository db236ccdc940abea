-- Revocation lists with the dates of their entries. The sections are those of RFC 5280, where no
-- other RFC is named.
use Rattle.std.specs.Prelude.{◌≡◌, ℕ, List, [], ◌∷◌, Some, map}
use Rattle.rpki_der.specs.declared.mode.Mode.{Mode}
use Rattle.rpki_der.specs.Grammar.{Integer, Optional, OctetsInBits}
use Rattle.rpki_der.specs.Form.Made.{Default, Ignored, default_at}
use Rattle.rpki_der.specs.Form.Parts.{Sequence, SequenceOf, Explicit}
use Rattle.rpki_der.specs.Form.Parts.{sequence_at, sequence_of_at, context_at}
use Rattle.rpki_der.specs.Read.Parse.{Parser, ◌>>=◌, primitive, this, optional, skip_all_at}
use Rattle.rpki_der.specs.Read.Parse.{u160_at, octets_in_bits_at}
use Rattle.rpki_der.specs.Tags.{INTEGER, SEQUENCE}
use Rattle.rpki_basics.specs.Algorithm.{CertAlgorithmForm, cert_algorithm_at}
use Rattle.rpki_basics.specs.Moment.{Moment}
use Rattle.rpki_basics.specs.Name.{NameForm, name_at}
use Rattle.rpki_basics.specs.Serial.{SerialForm}
use Rattle.rpki_basics.specs.Time.Form.{TimeForm}
use Rattle.rpki_basics.specs.Time.Read.{time_at}
use Rattle.rpki_crls.specs.Crl.{Tbs, v2}
use Rattle.rpki_crls.specs.Entry.{EntryExtensionsForm}
use Rattle.rpki_crls.specs.Extensions.{CrlExtensionsForm, crl_extensions_at}
use Rattle.rpki_crls.specs.declared.extensions.CrlExtensions.{CrlExtensions}
use Rattle.rpki_show.specs.declared.dated.DatedEntry.{DatedEntry}

-- What a revocation list says, but for the name of its issuer.
pub record DatedList : Type 0 where
  pub this_update : Moment
  pub next_update : Moment
  pub revoked : List DatedEntry
  pub extensions : CrlExtensions

-- SEQUENCE { userCertificate, revocationDate Time, crlEntryExtensions OPTIONAL } (5.1), of which
-- the serial number and the date count.
abbrev pub DatedEntryForm : Mode → List ℕ → DatedEntry → Type 0
DatedEntryForm mode octets e = Sequence mode (
    (λ o. SerialForm mode o e.serial)
    ∷ (λ o. TimeForm mode o e.date)
    ∷ Ignored (Optional (EntryExtensionsForm mode))
    ∷ []) octets

-- revokedCertificates: SEQUENCE OF these, OPTIONAL (5.1). Where it is missing there is no entry.
abbrev pub DatedEntriesForm : Mode → List ℕ → List DatedEntry → Type 0
DatedEntriesForm mode = Default [] (SequenceOf mode (DatedEntryForm mode))

-- TBSCertList (5.1), with the rules of `rpki_crls`.
abbrev pub DatedTbsForm : Mode → List ℕ → DatedList → Type 0
DatedTbsForm mode octets d = Sequence mode (
    (λ o. Integer mode o v2)
    ∷ (λ o. CertAlgorithmForm mode o tt)
    ∷ Ignored (NameForm mode)
    ∷ (λ o. TimeForm mode o d.this_update)
    ∷ (λ o. TimeForm mode o d.next_update)
    ∷ (λ o. DatedEntriesForm mode o d.revoked)
    ∷ (λ o. Explicit 0 mode (λ e. CrlExtensionsForm mode e d.extensions) o)
    ∷ []) octets

-- CertificateList: SEQUENCE { tbsCertList, signatureAlgorithm, signatureValue BIT STRING } (5.1).
abbrev pub DatedForm : Mode → List ℕ → DatedList → Type 0
DatedForm mode octets d = Sequence mode (
    (λ o. DatedTbsForm mode o d)
    ∷ (λ o. CertAlgorithmForm mode o tt)
    ∷ Ignored (OctetsInBits mode)
    ∷ []) octets

-- This is what is signed of a revocation list, with the dates of its entries.
pub record IsDated (t : Tbs) (d : DatedList) : Type 0 where
  pub this_update : t.this_update ≡ d.this_update
  pub next_update : t.next_update ≡ d.next_update
  pub revoked : t.revoked ≡ map (λ e. e.serial) d.revoked
  pub extensions : t.extensions ≡ d.extensions

-- ---- as functions

-- what stands in an entry
unfoldable pub entry_fields_at : Parser DatedEntry
entry_fields_at mode bytes = do
  serial ← u160_at mode bytes
  date ← time_at mode serial.1
  extensions ← optional SEQUENCE (sequence_at skip_all_at) mode date.1
  Some (record { serial = serial.0; date = date.0 }, extensions.1)

-- an entry
abbrev pub entry_at : Parser DatedEntry
entry_at = sequence_at entry_fields_at

-- the entries
abbrev pub entries_at : Parser (List DatedEntry)
entries_at = default_at [] SEQUENCE (sequence_of_at SEQUENCE entry_at)

-- the fields that are signed
unfoldable pub tbs_fields_at : Parser DatedList
tbs_fields_at mode bytes = do
  version ← primitive INTEGER (this v2) mode bytes
  algorithm ← cert_algorithm_at mode version.1
  issuer ← name_at mode algorithm.1
  this_update ← time_at mode issuer.1
  next_update ← time_at mode this_update.1
  revoked ← entries_at mode next_update.1
  extensions ← context_at 0 crl_extensions_at mode revoked.1
  Some (
    record {
      this_update = this_update.0;
      next_update = next_update.0;
      revoked = revoked.0;
      extensions = extensions.0;
    },
    extensions.1,
  )

-- what stands in the SEQUENCE
unfoldable pub contents_at : Parser DatedList
contents_at mode bytes = do
  list ← sequence_at tbs_fields_at mode bytes
  algorithm ← cert_algorithm_at mode list.1
  signature ← octets_in_bits_at mode algorithm.1
  Some (list.0, signature.1)

-- a revocation list
abbrev pub dated_at : Parser DatedList
dated_at = sequence_at contents_at
