-- What it means that a check ends with a yes, or with a no.
use Rattle.std.specs.Prelude.{◌≡◌, ◌⊎◌, ℕ, List, ◌∷◌, ◌++◌, map, Ok, Err}
use Rattle.sha2.specs.Sha256.{sha256}
use Rattle.rpki_der.specs.Form.Decodes.{IsOnlyFront}
use Rattle.rpki_der.specs.Grammar.{HasNoFront}
use Rattle.rpki_der.specs.declared.mode.Mode.{Mode}
use Rattle.rpki_der.specs.declared.mode.Mode.TheVariants.{Der}
use Rattle.rpki_basics.specs.Moment.{Moment}
use Rattle.rpki_certs.specs.Validate.{Validated}
use Rattle.rpki_certs.specs.Verify.{Verdict}
use Rattle.rpki_certs.specs.Issuer.{MakesIssuer}
use Rattle.rpki_certs.specs.declared.issuer.IssuerError.{IssuerError}
use Rattle.rpki_files.specs.Manifest.{ManifestForm}
use Rattle.rpki_files.specs.Manifest.Checks.{manifest_kind}
use Rattle.rpki_multi.specs.Attestation.{RtaForm}
use Rattle.rpki_multi.specs.Attestation as attested
use Rattle.rpki_paths.specs.Anchor.{Supply}
use Rattle.rpki_rta.specs.Granted.{IsDistinct, IsGrantedRta}
use Rattle.rpki_signed.specs.Check.{BeginsWith}
use Rattle.rpki_signed.specs.Walk.{AtHand}
use Rattle.rpki_sigobj.specs.Verify.{Digester}
use Rattle.rpki_sigobj.specs.Signed.Good.{IsGood}
use Rattle.rpki_sigobj.specs.Signed.Kind as signed
use Rattle.rpki_sigobj.specs.Signed.{Whole, ObjectForm}
use Rattle.rpki_verdicts.specs.Listed.{is_listed}
use Rattle.rpki_verdicts.specs.Verdicts.{AreVerdicts}
use Rattle.rpki_cli.specs.Answer.{Run, IsWhole, Output, Printed, Complained, out_of_memory}
use Rattle.rpki_cli.specs.Options.{manifest_rule}
use Rattle.rpki_cli.specs.declared.words.Command.{Command}
use Rattle.rpki_cli.specs.declared.words.Command.TheVariants as commands
use Rattle.rpki_cli.specs.declared.words.Kind.{Kind}
use Rattle.rpki_cli.specs.declared.words.Options.{Options}
use Rattle.rpki_cli.specs.declared.words.Order.{Order}
use Rattle.rpki_show.specs.Kinds.{OfKind}
use Rattle.rpki_show.specs.Options.{read_mode}
use Rattle.rpki_show.specs.Texts.Rta.{attestation_text}
use Rattle.rpki_command.specs.Anchors.{Given, given_in, MakeEach, IsFirstUnmade}
use Rattle.rpki_command.specs.Check.{yes_line, issuer_refusal}
use Rattle.rpki_command.specs.Rta.{supply_of, anchor_refusal}
use Rattle.rpki_command.specs.Held.{held_text}
use Rattle.rpki_command.specs.declared.anchors.Anchor.{Anchor}
use Rattle.rpki_command.specs.declared.anchors.AnchorError.{AnchorError}

-- the status that goes with what is said
abbrev pub status_of : Output → ℕ
status_of (Printed text status) = status
status_of (Complained text status) = status

-- The files of an object and of certificates: the name of each, or its octets.
pub record FilesOfCheck : Type 0 where
  pub object : List ℕ
  pub anchor : List ℕ
  pub chain : List (List ℕ)

-- the files of a check with the file of verdicts, in the order of the words
abbrev pub in_order_with : List ℕ → FilesOfCheck → List (List ℕ)
in_order_with verdicts files = files.object ∷ verdicts ∷ files.anchor ∷ files.chain

-- the order to check the object in the file of this name at this moment, by the verdicts and under
-- the certificates in those of the others
abbrev pub check_order : Options → Kind → Moment → List ℕ → FilesOfCheck → Order Command
check_order options kind now verdicts names = record {
  options = options;
  command = commands.Check kind names.object now verdicts names.anchor names.chain;
}

-- the order to check the manifest in the file of the first name in the same way, and to say which
-- of its entries the files at hand hold; the last words are those after the trust anchor
abbrev pub walk_order : Options → Moment → List ℕ → List ℕ → List ℕ → List (List ℕ) → Order Command
walk_order options now object verdicts anchor tail = record {
  options = options;
  command = commands.Walk object now verdicts anchor tail;
}

-- the order to check the attestation in the file of this name at this moment, by the verdicts and
-- under these anchors
abbrev pub rta_order : Options → Moment → List ℕ → List ℕ → List (List ℕ) → Order Command
rta_order options now object verdicts anchors = record {
  options = options;
  command = commands.Rta object now verdicts anchors;
}

-- The octets begin with a good object under this issuer, and the run prints yes and the lines of
-- its content, whole, and nothing else.
pub record PrintsYes {X : Type 0} (kind : signed.ObjectKind X) (form : List ℕ → X → Type 0)
    (text : X → List ℕ) (mode : Mode) (digest : Digester) (verdict : Verdict) (issuer : Validated)
    (now : Moment) (octets : List ℕ) (run : Run) : Type 0 where
  pub object : Whole X
  pub rest : List ℕ
  pub front : IsOnlyFront (ObjectForm kind.type form mode) octets object rest
  pub certificate : Validated
  pub good : IsGood kind mode digest verdict issuer now object certificate
  pub printed : IsWhole (yes_line ++ text object.content) 0 run.out_before run.out_after run.status
  pub silent : run.err_after ≡ run.err_before

-- A yes is right by a verdict: the certificates make an issuer, under which the object is good at
-- this moment, and the run prints yes and its lines, and nothing else. Digests are SHA-256 (RFC
-- 7935, section 2).
pub record IsRightYes (options : Options) (kind : Kind) (verdict : Verdict) (now : Moment)
    (files : FilesOfCheck) (run : Run) : Type 0 where
  pub issuer : Validated
  pub made : MakesIssuer verdict now files.anchor files.chain (Ok issuer)
  pub yes : OfKind options kind (λ X asked form text. PrintsYes asked form text (read_mode options)
      sha256 verdict issuer now files.object run)

-- A yes of a walk is right by a verdict: the certificates make an issuer, under which the manifest
-- is good at this moment, and the run prints yes and a line for each entry that the files at hand
-- hold, and nothing else.
pub record IsRightWalk (options : Options) (verdict : Verdict) (now : Moment) (files : FilesOfCheck)
    (hand : List AtHand) (run : Run) : Type 0 where
  pub issuer : Validated
  pub made : MakesIssuer verdict now files.anchor files.chain (Ok issuer)
  pub yes : PrintsYes manifest_kind (ManifestForm (manifest_rule options) Der)
      (held_text sha256 hand) (read_mode options) sha256 verdict issuer now files.object run

-- A yes to an attestation is right by a verdict: the files make anchors, under which the
-- attestation is granted at this moment, and the run prints yes and its lines, and nothing else.
-- Digests are SHA-256 (RFC 7935, section 2).
pub record IsRightRta (verdict : Verdict) (now : Moment) (words : List (List ℕ))
    (object : List ℕ) (files : List (List ℕ)) (run : Run) : Type 0 where
  pub anchors : List Anchor
  pub made : MakeEach verdict now (given_in words files) anchors
  pub rta : attested.Whole
  pub rest : List ℕ
  pub front : IsOnlyFront (RtaForm Der) object rta rest
  pub granted : IsGrantedRta sha256 verdict now rta (map supply_of anchors)
  pub printed : IsWhole (yes_line ++ attestation_text rta.content) 0 run.out_before run.out_after
      run.status
  pub silent : run.err_after ≡ run.err_before

-- One of the anchors is not made, and not for want of memory.
pub record HasNoAnchor (verdict : Verdict) (now : Moment) (given : List Given) : Type 0 where
  pub fault : AnchorError
  pub first : IsFirstUnmade verdict now given fault
  pub has_memory : anchor_refusal fault ≡ out_of_memory → ⊥

-- The octets begin with no attestation, or with one that is not granted under these supplies, if
-- the identifiers of what it carries are distinct.
abbrev pub BeginsWithNoGranted : Verdict → Moment → List Supply → List ℕ → Type 0
BeginsWithNoGranted verdict now supplied octets =
    HasNoFront (RtaForm Der) octets
    ⊎ BeginsWith (RtaForm Der) octets (λ (r : attested.Whole). IsDistinct sha256 verdict r
    → ¬ (IsGrantedRta sha256 verdict now r supplied))

-- The files make anchors, and under them the octets begin with no attestation that is granted.
pub record IsRefusedAnchored (verdict : Verdict) (now : Moment) (given : List Given)
    (object : List ℕ) : Type 0 where
  pub anchors : List Anchor
  pub made : MakeEach verdict now given anchors
  pub no : BeginsWithNoGranted verdict now (map supply_of anchors) object

-- A no to an attestation is right by a verdict: one of the anchors of these words is not made, and
-- not for want of memory; or under them the octets begin with no attestation that is granted at this
-- moment, if the identifiers of what it carries are distinct.
abbrev pub IsRightNoRta : Verdict → Moment → List (List ℕ) → List ℕ → List (List ℕ) → Type 0
IsRightNoRta verdict now words object files =
    HasNoAnchor verdict now (given_in words files)
    ⊎ IsRefusedAnchored verdict now (given_in words files) object

-- The octets begin with no object of the kind, or with one that is not good under this issuer.
abbrev pub BeginsWithNoGood : {X : Type 0} → signed.ObjectKind X → (List ℕ → X → Type 0) → Mode
    → Digester → Verdict → Validated → Moment → List ℕ → Type 0
BeginsWithNoGood {X} kind form mode digest verdict issuer now octets =
    HasNoFront (ObjectForm kind.type form mode) octets
    ⊎ BeginsWith (ObjectForm kind.type form mode) octets (λ (o : Whole X).
    (v : Validated) → IsGood kind mode digest verdict issuer now o v → ⊥)

-- The certificates make no issuer, and not for want of memory.
pub record MakeNoIssuer (verdict : Verdict) (now : Moment) (anchor : List ℕ)
    (chain : List (List ℕ)) : Type 0 where
  pub fault : IssuerError
  pub made : MakesIssuer verdict now anchor chain (Err fault)
  pub has_memory : issuer_refusal fault ≡ out_of_memory → ⊥

-- The certificates make an issuer, and under it the octets begin with no good object.
pub record IsRefusedUnder (options : Options) (kind : Kind) (verdict : Verdict) (now : Moment)
    (files : FilesOfCheck) : Type 0 where
  pub issuer : Validated
  pub made : MakesIssuer verdict now files.anchor files.chain (Ok issuer)
  pub no : OfKind options kind (λ X asked form text. BeginsWithNoGood asked form
      (read_mode options) sha256 verdict issuer now files.object)

-- A no is right by a verdict: the certificates make no issuer, or one under which the octets begin
-- with no good object at this moment.
abbrev pub IsRightNo : Options → Kind → Verdict → Moment → FilesOfCheck → Type 0
IsRightNo options kind verdict now files =
    MakeNoIssuer verdict now files.anchor files.chain
    ⊎ IsRefusedUnder options kind verdict now files

-- The text is a list of verdicts, and by them this holds.
pub record HoldsByList (P : Verdict → Type 0) (text : List ℕ) : Type 0 where
  pub lines : List (List ℕ)
  pub listed : AreVerdicts text lines
  pub holds : P (is_listed lines)
