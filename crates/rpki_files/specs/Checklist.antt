-- The content of a signed checklist. The sections are those of RFC 9323.
pub mod Checks
pub mod Files
use Rattle.std.specs.Prelude.{◌++◌, ℕ, List, [], ◌∷◌, Some}
use Rattle.std.specs.List.{flat_map}
use Rattle.rpki_der.specs.Tags.{SEQUENCE, context}
use Rattle.rpki_der.specs.declared.mode.Mode.{Mode}
use Rattle.rpki_der.specs.declared.mode.Mode.TheVariants.{Der}
use Rattle.rpki_der.specs.Read.Parse.{Parser, ◌>>=◌, optional}
use Rattle.rpki_der.specs.Form.Parts.{Sequence, SequenceOf, Explicit, sequence_at, context_at}
use Rattle.rpki_der.specs.Form.Made.{Made}
use Rattle.rpki_der.specs.Write.Written.{value_octets}
use Rattle.rpki_resources.specs.As.Form.{AsForm}
use Rattle.rpki_resources.specs.As.Read.{as_blocks_at}
use Rattle.rpki_resources.specs.As.Written.{as_octets}
use Rattle.rpki_basics.specs.Algorithm.{DigestAlgorithmForm, digest_algorithm_at}
use Rattle.rpki_basics.specs.Algorithm.{digest_algorithm_octets}
use Rattle.rpki_lists.specs.declared.named.Named.{Named}
use Rattle.rpki_lists.specs.Entries.{list_at}
use Rattle.rpki_lists.specs.Named.{Set, ResourceBlockForm, sets_of, sets_at}
use Rattle.rpki_lists.specs.Named.{resource_block_contents}
use Rattle.rpki_lists.specs.Version.{OptionalVersion, version_at}
use Rattle.rpki_files.specs.Checklist.Files.{Checked, CheckedForm, checked_at, checked_octets}

-- what a content says: the numbers that it names, which its signer has to hold (4.2), and the
-- files
pub record Checklist : Type 0 where
  pub as_resources : Set
  pub v4_resources : Set
  pub v6_resources : Set
  pub files : List Checked

-- ConstrainedASIdentifiers ::= SEQUENCE { asnum [0] SEQUENCE OF ASIdOrRange } (4.2.1)
abbrev pub NumbersForm : Mode → List ℕ → Set → Type 0
NumbersForm mode octets set = Sequence mode (
    (λ o. Explicit 0 mode (λ c. AsForm mode c set) o)
    ∷ []) octets

-- ResourceBlock ::= SEQUENCE { asID [0] ConstrainedASIdentifiers OPTIONAL, ipAddrBlocks [1]
-- ConstrainedIPAddrBlocks OPTIONAL }, where something is named (4.2). The families may stand in
-- either order, each at most once. That the sets may be empty, and their blocks in any order, is
-- this project's own rule.
abbrev pub NamedForm : Mode → List ℕ → Named → Type 0
NamedForm = ResourceBlockForm NumbersForm

-- RpkiSignedChecklist ::= SEQUENCE { version [0] INTEGER DEFAULT 0, resources ResourceBlock,
-- digestAlgorithm DigestAlgorithmIdentifier, checkList SEQUENCE OF FileNameAndHash } (4). The
-- algorithm is SHA-256 (RFC 7935, section 2). That the list may be empty, and that a name may come
-- twice, is this project's own rule. That the files stand in DER in a reader of BER too is this
-- project's own rule.
abbrev pub ChecklistForm : Mode → List ℕ → Checklist → Type 0
ChecklistForm mode octets l = Sequence mode (
    OptionalVersion mode
    ∷ (λ o. Made sets_of (NamedForm mode) o (l.as_resources, (l.v4_resources, l.v6_resources)))
    ∷ (λ o. DigestAlgorithmForm mode o tt)
    ∷ (λ o. SequenceOf mode (CheckedForm Der) o l.files)
    ∷ []) octets

-- ---- as functions

-- AS numbers under their tag
unfoldable pub number_fields_at : Parser Set
number_fields_at mode bytes = do
  set ← context_at 0 as_blocks_at mode bytes
  Some (set.0, set.1)

-- AS numbers
abbrev pub numbers_at : Parser Set
numbers_at = sequence_at number_fields_at

-- the algorithm and the files
unfoldable pub listed_at : Parser (List Checked)
listed_at mode bytes = do
  algorithm ← digest_algorithm_at mode bytes
  files ← list_at checked_at mode algorithm.1
  Some (files.0, files.1)

-- the fields, one after another
unfoldable pub fields_at : Parser Checklist
fields_at mode bytes = do
  version ← optional (context 0) version_at mode bytes
  sets ← sets_at numbers_at mode version.1
  files ← listed_at mode sets.1
  Some (
    record {
      as_resources = sets.0.0;
      v4_resources = sets.0.1.0;
      v6_resources = sets.0.1.1;
      files = files.0;
    },
    files.1,
  )

-- a content
abbrev pub checklist_at : Parser Checklist
checklist_at = sequence_at fields_at

-- ---- as octets

-- AS numbers
abbrev pub numbers_octets : Set → List ℕ
numbers_octets set = value_octets (context 0) (value_octets SEQUENCE (value_octets (context 0)
    (value_octets SEQUENCE (flat_map as_octets set))))

-- what stands in the SEQUENCE of the resources
abbrev pub named_contents : Checklist → List ℕ
named_contents l =
    resource_block_contents numbers_octets l.as_resources l.v4_resources l.v6_resources

-- the files, one after the other
abbrev pub files_octets : Checklist → List ℕ
files_octets l = flat_map checked_octets l.files

-- The octets in the SEQUENCE of a content, without its header.
abbrev pub checklist_contents : Checklist → List ℕ
checklist_contents l = value_octets SEQUENCE (named_contents l)
    ++ (digest_algorithm_octets ++ value_octets SEQUENCE (files_octets l))

-- a content, without its version, and without sets that have no number, but for the AS numbers
-- where all three have none
abbrev pub checklist_octets : Checklist → List ℕ
checklist_octets l = value_octets SEQUENCE (checklist_contents l)
