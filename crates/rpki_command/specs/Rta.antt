-- What is said of an attestation under anchors, by the octets of the files
-- (draft-michaelson-rpki-rta).
use Rattle.std.specs.Prelude.{◌≡◌, ◌⊎◌, ℕ, List, ◌∷◌, ◌++◌, map, Result, Ok, Err, IfErr, Vec}
use Rattle.std.specs.declared.alloc.Global.{Global}
use Rattle.sha2.specs.Sha256.{sha256}
use Rattle.rpki_basics.specs.Moment.{Moment}
use Rattle.rpki_certs.specs.Validate.{Validated}
use Rattle.rpki_certs.specs.Verify.{Verdict}
use Rattle.rpki_multi.specs.Attestation.{KeptWhole}
use Rattle.rpki_paths.specs.Anchor.{Supply}
use Rattle.rpki_paths.specs.declared.supply.Supplied.{Supplied}
use Rattle.rpki_rta.specs.Carried.{set_of}
use Rattle.rpki_rta.specs.Refused.{supply_in}
use Rattle.rpki_signed.specs.Attested.{IsExactRta, IsFirstOfRta}
use Rattle.rpki_signed.specs.declared.check.CheckError.{CheckError}
use Rattle.rpki_signed.specs.declared.check.CheckError.TheVariants.{Decode, Validation}
use Rattle.rpki_sigobj.specs.Verify.{Digester}
use Rattle.rpki_tal.specs.Tal.{Locator}
use Rattle.rpki_verdicts.specs.Listed.{is_listed}
use Rattle.rpki_cli.specs.Answer.{Output, out_of_memory, malformed}
use Rattle.rpki_cli.specs.Shown.{IsLinesOf}
use Rattle.rpki_cli.specs.Refusal.{IsRefusal}
use Rattle.rpki_cli.specs.declared.causes.Causes.TheVariants.{Omitted}
use Rattle.rpki_show.specs.Texts.Rta.{attestation_text}
use Rattle.rpki_command.specs.Anchors.{given_in, AreMade}
use Rattle.rpki_command.specs.Check.{yes_line, issuer_refusal, IsRefused, IsByLines}
use Rattle.rpki_command.specs.declared.anchors.Anchor.{Anchor}
use Rattle.rpki_command.specs.declared.anchors.Anchor.TheVariants.{Tal, Ca}
use Rattle.rpki_command.specs.declared.anchors.AnchorError.{AnchorError}
use Rattle.rpki_command.specs.declared.anchors.AnchorError.TheVariants.{NoLocator, NoIssuer, Memory}

-- what an anchor supplies: a locator its key; a CA its key identifier, its key and its numbers
abbrev pub supply_of : Anchor → Supply
supply_of (Tal tal) = Supply.Tal tal.key
supply_of (Ca ca) = Supply.Ca ca.cert.certificate.tbs.extensions.key.subject_key
    ca.cert.certificate.tbs.key (set_of ca.sets)

-- What is said of what a check answers: yes and the lines of the content, or why not.
abbrev pub IsRtaSaid : Result KeptWhole CheckError → Output → Type 0
IsRtaSaid (Ok r) s = IsLinesOf (yes_line ++ attestation_text r.content) s
IsRtaSaid (Err (Decode fault)) s = IsRefusal Omitted fault s
IsRtaSaid (Err (Validation fault)) s = IsRefused fault s

-- What the check of an attestation answers by this cryptography, and what is said of it: unless
-- memory runs out, a yes only where the octets begin with one that is granted under these supplies,
-- and a refusal only where they begin with none, or with one that is not, if the identifiers of what
-- it carries are distinct. Where they begin with one, a refusal names the fault of the first thing
-- that fails. `given` has the locators and CAs that supply these.
pub record IsRtaChecked {C : Type 0} (digests : C → Digester) (says : C → Verdict) (crypto : C)
    (now : Moment) (supplied : List Supply) (octets : List ℕ) (s : Output) : Type 0 where
  pub result : Result KeptWhole CheckError
  pub given : List (Supplied Locator Validated)
  pub same : map supply_in given ≡ supplied
  pub first : IfErr result (IsFirstOfRta digests says crypto now given octets)
  pub exact : IsExactRta (digests crypto) (says crypto) now supplied octets result
  pub said : IsRtaSaid result s

-- what is said of octets that may begin with an attestation, unless memory runs out
abbrev pub AttestedUnder : {C : Type 0} → (C → Digester) → (C → Verdict) → C → Moment
    → List Supply → List ℕ → Output → Type 0
AttestedUnder digests says crypto now supplied octets s =
    (s ≡ out_of_memory) ⊎ IsRtaChecked digests says crypto now supplied octets s

-- why files make no anchor, as it is said
abbrev pub anchor_refusal : AnchorError → Output
anchor_refusal NoLocator = malformed
anchor_refusal (NoIssuer fault) = issuer_refusal fault
anchor_refusal Memory = out_of_memory

-- what is said where files make no anchor, unless memory runs out
abbrev pub IsAnchorRefused : AnchorError → Output → Type 0
IsAnchorRefused fault s = (s ≡ out_of_memory) ⊎ (s ≡ anchor_refusal fault)

-- what is said of an attestation where files make these anchors
abbrev pub IsSaidWith : (List Supply → Output → Type 0) → Result (Vec Anchor Global) AnchorError
    → Output → Type 0
IsSaidWith P (Ok anchors) s = P (map supply_of anchors.items) s
IsSaidWith P (Err fault) s = IsAnchorRefused fault s

-- What is said of an attestation, by its octets and those of the files that these anchors name:
-- first of the anchors, and then of the attestation.
abbrev pub IsAttestedWith : {C : Type 0} → (C → Digester) → (C → Verdict) → C → Moment
    → List (List ℕ) → List ℕ → List (List ℕ) → Output → Type 0
IsAttestedWith digests says crypto now words object files s =
    (anchors : Result (Vec Anchor Global) AnchorError)
    × AreMade (says crypto) now (given_in words files) anchors
    × IsSaidWith (λ supplied said. AttestedUnder digests says crypto now supplied object said)
    anchors s

-- What is said of files: of the attestation, the verdicts, and those that these anchors name. The
-- cryptography is the list of verdicts, seen as its lines. Digests are SHA-256 (RFC 7935, section
-- 2).
abbrev pub RtaOf : Moment → List (List ℕ) → List (List ℕ) → Output → Type 0
RtaOf now words (object ∷ verdicts ∷ files) s =
    IsByLines
    (λ lines said. IsAttestedWith (λ _. sha256) is_listed lines now words object files said)
    verdicts s
RtaOf now words files s = ⊥
