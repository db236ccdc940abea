-- Anchors by their files, and attestations under them.
use Rattle.std.specs.Prelude.{◌≡◌, ◌⊎◌, ℕ, List, [], ◌∷◌, ◌++◌, Any, Bool, true, false, None, Ok}
use Rattle.std.specs.Prelude.{Err, codes, map}
use Rattle.std.specs.Borrow.{Bor}
use Rattle.std.specs.List.{AllZip}
use Rattle.rpki_basics.specs.Moment.{Moment}
use Rattle.rpki_cli.specs.Store.{IsRead, Told}
use Rattle.rpki_cli.specs.Words.{files_of_anchors, is_locator, texts}
use Rattle.rpki_multi.specs.Attestation.{KeptWhole}
use Rattle.rpki_paths.specs.Anchor.{Supply}
use Rattle.rpki_rta.specs.Carried.{set_of}
use Rattle.rpki_show.specs.Texts.Rta.{attestation_text}
use Rattle.rpki_signed.specs.declared.check.CheckError.{CheckError}
use Rattle.rpki_validation.specs.Attestation.{IsAttested}
use Rattle.rpki_validation.specs.Grounds.{AreGroundsOf}
use Rattle.rpki_validation.specs.Locator.{IsLocator}
use Rattle.rpki_validation.specs.Refusal.{is_memory_of_check}
use Rattle.rpki_validation.specs.declared.question.Manner.{Manner}
use Rattle.rpki_validation.specs.declared.question.Question.{Question}
use Rattle.rpki_program.specs.Verify.Inputs.{HasNoAnswer, IsQuestionOf}
use Rattle.rpki_program.specs.Verify.Report.{IsNoUnlessZero, IsRight, IsStopped, SaysNoYes}
use Rattle.rpki_program.specs.declared.verify.request.IssuerFiles.{IssuerFiles}
use Rattle.rpki_program.specs.declared.verify.request.RtaRequest.{RtaRequest}
use Rattle.rpki_program.specs.declared.verify.rta.Anchor.{Anchor}
use Rattle.rpki_program.specs.declared.verify.rta.Anchor.TheVariants.{Ca, Tal}

-- These are the files that an anchor names, the first as that of a trust anchor.
pub record IsUnder (word : List ℕ) (under : IssuerFiles) : Type 0 where
  pub files : under.ta.now ∷ texts under.cas.items ≡ files_of_anchors (word ∷ [])
  pub tal : under.tal ≡ None
  pub crls : under.crls.items ≡ []

-- the anchor is the locator in the file of this name, by what the store tells
abbrev pub IsLocated : Told → List ℕ → Anchor → Type 0
IsLocated told name (Tal l) =
    (octets : List ℕ) × IsRead (told name) (Ok octets) × IsLocator octets l
IsLocated told name (Ca g) = ⊥

-- the anchor is the issuer that the certificates in these files make at this moment
abbrev pub IsIssued : Told → Moment → IssuerFiles → Anchor → Type 0
IsIssued told now under (Tal l) = ⊥
IsIssued told now under (Ca g) = (manner : Manner) × (q : Question)
    × IsQuestionOf told under now manner q × AreGroundsOf q g

-- the anchor is that of such a word
abbrev pub IsAnchorFrom : Told → Moment → Bool → IssuerFiles → Anchor → Type 0
IsAnchorFrom told now true under a = IsLocated told under.ta.now a
IsAnchorFrom told now false under a = IsIssued told now under a

-- A word names an anchor, tal=FILE or ca=TA[:CA ..], by what the store tells of its files.
abbrev pub IsAnchorOf : Told → Moment → List ℕ → Anchor → Type 0
IsAnchorOf told now word a =
    (under : IssuerFiles) × IsUnder word under × IsAnchorFrom told now (is_locator word) under a

-- each word names its anchor
abbrev pub AreAnchors : Told → Moment → List (Bor (List ℕ)) → List Anchor → Type 0
AreAnchors told now words anchors = AllZip (λ w a. IsAnchorOf told now w.now a) words anchors

-- ---- words that name none

-- the certificates in these files make no issuer at this moment, and not for want of memory
abbrev pub IsUnissued : Told → Moment → IssuerFiles → Type 0
IsUnissued told now under = (manner : Manner) × (q : Question)
    × IsQuestionOf told under now manner q × HasNoAnswer q

-- a word names no anchor: its certificates make no issuer
abbrev pub IsNoAnchor : Told → Moment → List ℕ → Type 0
IsNoAnchor told now word = (under : IssuerFiles) × IsUnder word under
    × (is_locator word ≡ false) × IsUnissued told now under

-- Where there is no anchor, the status is 1 and the text a no, only where this is so; else there is
-- no text, and the run is stopped.
abbrev pub IsNone : Type 0 → List ℕ → ℕ → Type 0
IsNone No text status =
    (IsStopped status × (text ≡ [])) ⊎ ((status ≡ 1) × SaysNoYes text × No)

-- ---- attestations

-- what an anchor supplies: a locator its key; an issuer its key identifier, its key and its numbers
abbrev pub supply_of : Anchor → Supply
supply_of (Tal l) = Supply.Tal l.key
supply_of (Ca g) = Supply.Ca g.issuer.cert.certificate.tbs.extensions.key.subject_key
    g.issuer.cert.certificate.tbs.key (set_of g.issuer.sets)

-- The octets begin with an attestation that is granted at this moment under these supplies, and this
-- text is a yes and the lines of its content.
abbrev pub IsGrantedUnder : Moment → List Supply → List ℕ → List ℕ → Type 0
IsGrantedUnder now supplies octets text = (k : KeptWhole)
    × IsAttested now supplies octets (Ok k)
    × (text ≡ codes "yes\n" ++ attestation_text k.content)

-- a check refuses them, and not for want of memory
abbrev pub IsRefusedUnder : Moment → List Supply → List ℕ → Type 0
IsRefusedUnder now supplies octets = (fault : CheckError)
    × IsAttested now supplies octets (Err fault) × (is_memory_of_check fault ≡ false)

-- what is reported of such octets
abbrev pub IsReportUnder : Moment → List Supply → List ℕ → List ℕ → ℕ → Type 0
IsReportUnder now supplies octets text status =
    ((status ≡ 0) × IsGrantedUnder now supplies octets text)
    ⊎ ((status ≡ 1) × SaysNoYes text × IsRefusedUnder now supplies octets)

-- Each word names its anchor, and the octets that the store tells of the file are such under what
-- the anchors supply.
pub record IsUnderAnchors (told : Told) (r : RtaRequest) (moment : Moment)
    (Such : List Supply → List ℕ → Type 0) : Type 0 where
  pub anchors : List Anchor
  pub are : AreAnchors told moment r.anchors.items anchors
  pub octets : List ℕ
  pub is_read : IsRead (told r.object.now) (Ok octets)
  pub such : Such (map supply_of anchors) octets

-- A yes is right: the octets begin with an attestation that is granted.
abbrev pub IsYesOfRta : Told → RtaRequest → Moment → List ℕ → Type 0
IsYesOfRta told r moment text =
    IsUnderAnchors told r moment (λ supplies octets. IsGrantedUnder moment supplies octets text)

-- A no is right: a word names no anchor, or a check refuses them. Where the identifiers of what the
-- attestation carries are distinct, it is not granted then (`IsRtaDecided` of rpki_validation).
abbrev pub IsNoOfRta : Told → RtaRequest → Moment → Type 0
IsNoOfRta told r moment = Any (λ w. IsNoAnchor told moment w.now) r.anchors.items
    ⊎ IsUnderAnchors told r moment (IsRefusedUnder moment)

-- what a check of an attestation reports
abbrev pub IsRtaReport : Told → RtaRequest → Moment → List ℕ → ℕ → Type 0
IsRtaReport told r moment text status =
    IsRight (IsYesOfRta told r moment text) (IsNoOfRta told r moment) status
    × IsNoUnlessZero false r.object.now text status
