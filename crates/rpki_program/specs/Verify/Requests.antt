-- What words ask for.
use Rattle.std.specs.Prelude.{◌≡◌, ◌==◌, ◌||◌, ℕ, List, [], ◌∷◌, ◌⊎◌, Bool, true, false, not}
use Rattle.std.specs.Prelude.{All, Option, None, Some, codes, if◌then◌else◌, nat_lt}
use Rattle.std.specs.Borrow.{Bor}
use Rattle.std.specs.List.{list_any}
use Rattle.std.specs.Str.Parse.{IsNumeral, digits_value, without_leading_plus}
use Rattle.rpki_basics.specs.declared.limits.ManifestRule.TheVariants.{Any, Registered}
use Rattle.rpki_basics.specs.declared.limits.ProviderLimit.{ProviderLimit}
use Rattle.rpki_basics.specs.declared.limits.ProviderLimit.TheVariants.{Narrow, Wide}
use Rattle.rpki_cli.specs.Words.{texts, are_anchors}
use Rattle.rpki_payloads.specs.declared.formats.PayloadFormat.{PayloadFormat}
use Rattle.rpki_payloads.specs.declared.formats.PayloadFormat.TheVariants.{Lines, Long, Csv, Json}
use Rattle.rpki_payloads.specs.declared.formats.PayloadFormat.TheVariants.{RpkiClient, Bird}
use Rattle.rpki_payloads.specs.declared.formats.PayloadFormat.TheVariants.{Openbgpd}
use Rattle.rpki_validation.specs.declared.question.Manner.{Manner}
use Rattle.rpki_program.specs.Verify.Items.{AreItems, is_set, values, operands}
use Rattle.rpki_program.specs.Verify.Kinds.{kind_word}
use Rattle.rpki_program.specs.Verify.Time.{IsTime}
use Rattle.rpki_program.specs.Verify.Words.{command_word, takes}
use Rattle.rpki_program.specs.declared.verify.items.Item.{Item}
use Rattle.rpki_program.specs.declared.verify.items.Item.TheVariants.{Flag, Value, Operand}
use Rattle.rpki_program.specs.declared.verify.options.OptionName.TheVariants as options
use Rattle.rpki_program.specs.declared.verify.request.CheckRequest.{CheckRequest}
use Rattle.rpki_program.specs.declared.verify.request.CommandName.{CommandName}
use Rattle.rpki_program.specs.declared.verify.request.CommandName.TheVariants as commands
use Rattle.rpki_program.specs.declared.verify.request.ExplainRequest.{ExplainRequest}
use Rattle.rpki_program.specs.declared.verify.request.FileKind.{FileKind}
use Rattle.rpki_program.specs.declared.verify.request.FilesRequest.{FilesRequest}
use Rattle.rpki_program.specs.declared.verify.request.IssuerFiles.{IssuerFiles}
use Rattle.rpki_program.specs.declared.verify.request.PayloadsRequest.{PayloadsRequest}
use Rattle.rpki_program.specs.declared.verify.request.Request.{Request}
use Rattle.rpki_program.specs.declared.verify.request.Request.TheVariants.{Check, Files, Rta, Show}
use Rattle.rpki_program.specs.declared.verify.request.Request.TheVariants.{Verdicts, RtaVerdicts}
use Rattle.rpki_program.specs.declared.verify.request.Request.TheVariants.{Payloads, Explain, Help}
use Rattle.rpki_program.specs.declared.verify.request.Request.TheVariants.{Options, Version}
use Rattle.rpki_program.specs.declared.verify.request.RtaRequest.{RtaRequest}
use Rattle.rpki_program.specs.declared.verify.request.RtaVerdictsRequest.{RtaVerdictsRequest}
use Rattle.rpki_program.specs.declared.verify.request.ShowRequest.{ShowRequest}
use Rattle.rpki_program.specs.declared.verify.request.VerdictsRequest.{VerdictsRequest}
use Rattle.rpki_program.specs.declared.verify.request.When.{When}
use Rattle.rpki_program.specs.declared.verify.request.When.TheVariants.{Now}

-- ---- single values

-- These are the values of an option that stands at most once. It says this; where it does not
-- stand, the default does.
abbrev pub IsGiven : {T : Type 0} → (List ℕ → T → Type 0) → T → List (List ℕ) → T → Type 0
IsGiven Says default [] x = x ≡ default
IsGiven Says default (word ∷ []) x = Says word x
IsGiven Says default words x = ⊥

-- the word itself, if it stands
abbrev pub word_given : Option (Bor (List ℕ)) → List (List ℕ)
word_given None = []
word_given (Some word) = word.now ∷ []

-- the word says this kind
abbrev pub SaysKind : List ℕ → Option FileKind → Type 0
SaysKind word None = ⊥
SaysKind word (Some kind) = word ≡ kind_word kind

-- the word is that of the format; the long one has none
abbrev pub SaysFormat : List ℕ → PayloadFormat → Type 0
SaysFormat word Lines = word ≡ codes "lines"
SaysFormat word Long = ⊥
SaysFormat word Csv = word ≡ codes "csv"
SaysFormat word Json = word ≡ codes "json"
SaysFormat word RpkiClient = word ≡ codes "rpki-client"
SaysFormat word Bird = word ≡ codes "bird"
SaysFormat word Openbgpd = word ≡ codes "openbgpd"

-- the word is the number in decimal digits
abbrev pub SaysNumber : List ℕ → Option ℕ → Type 0
SaysNumber word None = ⊥
SaysNumber word (Some n) =
    IsNumeral 10 (without_leading_plus word) × (n ≡ digits_value 10 (without_leading_plus word))

-- ---- what several commands have

-- how many providers a customer may have
abbrev pub limit_of : List Item → ProviderLimit
limit_of items = if is_set options.Wide items then Wide else Narrow

-- how objects are read
abbrev pub manner_of : List Item → Manner
manner_of items = record {
  strict = not (is_set options.Relaxed items);
  names = if is_set options.Registered items then Registered else Any;
  limit = limit_of items;
}

-- the moment of a check, that of the clock by default
abbrev pub IsAt : List Item → When → Type 0
IsAt items at = IsGiven IsTime Now (values options.At items) at

-- the format of payloads, lines by default; `--long` asks for the long one of lines
abbrev pub IsFormat : List Item → PayloadFormat → Type 0
IsFormat items Long = (is_set options.Long items ≡ true)
    × IsGiven SaysFormat Lines (values options.Format items) Lines
IsFormat items format = (is_set options.Long items ≡ false)
    × IsGiven SaysFormat Lines (values options.Format items) format

-- the kind of files, if it is given
abbrev pub IsKind : List Item → Option FileKind → Type 0
IsKind items kind = IsGiven SaysKind None (values options.Kind items) kind

-- the files of certificates and lists
pub record AreUnder (items : List Item) (u : IssuerFiles) : Type 0 where
  pub ta : values options.Ta items ≡ u.ta.now ∷ []
  pub tal : values options.Tal items ≡ word_given u.tal
  pub cas : values options.Ca items ≡ texts u.cas.items
  pub crls : values options.Crl items ≡ texts u.crls.items

-- ---- the commands

pub record IsCheck (items : List Item) (r : CheckRequest) : Type 0 where
  pub at : IsAt items r.at
  pub manner : r.manner ≡ manner_of items
  pub json : r.json ≡ is_set options.Json items
  pub kind : IsKind items r.kind
  pub under : AreUnder items r.under
  pub files : operands items ≡ texts r.files.items
  pub some : r.files.items ≡ [] → ⊥

pub record IsFiles (items : List Item) (r : FilesRequest) : Type 0 where
  pub at : IsAt items r.at
  pub manner : r.manner ≡ manner_of items
  pub json : r.json ≡ is_set options.Json items
  pub under : AreUnder items r.under
  pub words : operands items ≡ r.object.now ∷ r.folder.now ∷ []

-- the anchors are tal=FILE or ca=FILE[:FILE ..]
pub record IsRta (items : List Item) (r : RtaRequest) : Type 0 where
  pub at : IsAt items r.at
  pub words : operands items ≡ r.object.now ∷ texts r.anchors.items
  pub anchors : are_anchors (texts r.anchors.items) ≡ true

pub record IsShow (items : List Item) (r : ShowRequest) : Type 0 where
  pub manner : r.manner ≡ manner_of items
  pub json : r.json ≡ is_set options.Json items
  pub kind : IsKind items r.kind
  pub files : operands items ≡ texts r.files.items
  pub some : r.files.items ≡ [] → ⊥

pub record IsVerdicts (items : List Item) (r : VerdictsRequest) : Type 0 where
  pub manner : r.manner ≡ manner_of items
  pub ta : values options.Ta items ≡ r.ta.now ∷ []
  pub cas : values options.Ca items ≡ texts r.cas.items
  pub words : operands items ≡ r.object.now ∷ []

-- the item is an operand
abbrev pub IsOperand : Item → Type 0
IsOperand (Operand word) = Unit {0}
IsOperand item = ⊥

-- the anchors are as in `rta`, and no option stands beside them
pub record IsRtaVerdicts (items : List Item) (r : RtaVerdictsRequest) : Type 0 where
  pub bare : All IsOperand items
  pub words : operands items ≡ r.object.now ∷ texts r.anchors.items
  pub anchors : are_anchors (texts r.anchors.items) ≡ true

pub record IsPayloads (items : List Item) (r : PayloadsRequest) : Type 0 where
  pub at : IsAt items r.at
  pub providers : r.providers ≡ limit_of items
  pub format : IsFormat items r.format
  pub slurm : values options.Slurm items ≡ texts r.slurm.items
  pub limit : IsGiven SaysNumber None (values options.Limit items) r.limit
  pub max_file : IsGiven SaysNumber None (values options.MaxFile items) r.max_file
  pub verbose : r.verbose ≡ is_set options.Verbose items
  pub words : operands items ≡ r.copy.now ∷ texts r.tals.items
  pub some : r.tals.items ≡ [] → ⊥

pub record IsExplain (items : List Item) (r : ExplainRequest) : Type 0 where
  pub at : IsAt items r.at
  pub words : operands items ≡ r.copy.now ∷ r.tal.now ∷ r.target.now ∷ []

-- the items of a command ask for this
abbrev pub AreOf : CommandName → List Item → Request → Type 0
AreOf command items (Check r) = (command ≡ commands.Check) × IsCheck items r
AreOf command items (Files r) = (command ≡ commands.Files) × IsFiles items r
AreOf command items (Rta r) = (command ≡ commands.Rta) × IsRta items r
AreOf command items (Show r) = (command ≡ commands.Show) × IsShow items r
AreOf command items (Verdicts r) = (command ≡ commands.Verdicts) × IsVerdicts items r
AreOf command items (RtaVerdicts r) = (command ≡ commands.Verdicts) × IsRtaVerdicts items r
AreOf command items (Payloads r) = (command ≡ commands.Payloads) × IsPayloads items r
AreOf command items (Explain r) = (command ≡ commands.Explain) × IsExplain items r
AreOf command items (Help (Some c)) = (command ≡ c) × (is_set options.Help items ≡ true)
AreOf command items request = ⊥

-- whether an octet is a control character (RFC 20, section 5.2)
abbrev pub is_control : ℕ → Bool
is_control octet = nat_lt octet 0x20 || (octet == 0x7F)

-- an operand or a value has a character at least, and none that is a control character
abbrev pub IsPrintable : List ℕ → Type 0
IsPrintable word = (list_any is_control word ≡ false) × (word ≡ [] → ⊥)

-- a command takes this item: an option is one of the command's
abbrev pub IsTaken : CommandName → Item → Type 0
IsTaken command (Flag n) = takes command n ≡ true
IsTaken command (Value n word) = (takes command n ≡ true) × IsPrintable word
IsTaken command (Operand word) = IsPrintable word

-- the word, which is none of a command, asks for this
abbrev pub IsAsked : List ℕ → Request → Type 0
IsAsked word (Help None) = (word ≡ codes "--help") ⊎ (word ≡ codes "-h")
IsAsked word Version = word ≡ codes "--version"
IsAsked word Options = word ≡ codes "--options"
IsAsked word request = ⊥

-- The words ask for this: the first does by itself, or it is that of a command, and those after it
-- are items, each of which the command takes, and which ask for this.
pub data AskFor : List (List ℕ) → Request → Type 0 where
  alone : {word : List ℕ} {after : List (List ℕ)} {request : Request} → IsAsked word request
      → AskFor (word ∷ after) request
  with_items : (command : CommandName) {after : List (List ℕ)} {items : List Item}
      {request : Request} → AreItems after items → All (IsTaken command) items
      → AreOf command items request
      → AskFor (command_word command ∷ after) request
