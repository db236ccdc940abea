-- What is answered to a check of a signed object, by the octets of the files.
use Rattle.std.specs.Prelude.{◌≡◌, ◌⊎◌, ℕ, List, ◌∷◌, ◌++◌, codes, Result, Ok, Err}
use Rattle.sha2.specs.Sha256.{sha256}
use Rattle.rpki_der.specs.declared.error.DecodeError.TheVariants as decoding
use Rattle.rpki_der.specs.declared.mode.Mode.{Mode}
use Rattle.rpki_basics.specs.Moment.{Moment}
use Rattle.rpki_faults.specs.Text.Inspection.{inspection_text}
use Rattle.rpki_faults.specs.Text.Verification.{verification_text}
use Rattle.rpki_faults.specs.declared.validation.ValidationError.{ValidationError}
use Rattle.rpki_faults.specs.declared.validation.ValidationError.TheVariants as validation
use Rattle.rpki_certs.specs.Cert.{KeptCertificate}
use Rattle.rpki_certs.specs.Validate.{Validated}
use Rattle.rpki_certs.specs.Verify.{Verdict}
use Rattle.rpki_certs.specs.Issuer.{MakesIssuer}
use Rattle.rpki_certs.specs.declared.issuer.IssuerError.{IssuerError}
use Rattle.rpki_certs.specs.declared.issuer.IssuerError.TheVariants as issuing
use Rattle.rpki_signed.specs.Check.{Checks}
use Rattle.rpki_signed.specs.Exact.{IsExact}
use Rattle.rpki_signed.specs.declared.check.CheckError.{CheckError}
use Rattle.rpki_signed.specs.declared.check.CheckError.TheVariants.{Decode, Validation}
use Rattle.rpki_sigobj.specs.Verify.{Digester}
use Rattle.rpki_sigobj.specs.Signed.Kind as signed
use Rattle.rpki_verdicts.specs.Listed.{is_listed}
use Rattle.rpki_verdicts.specs.Verdicts.{AreVerdicts}
use Rattle.rpki_cli.specs.Answer.{Output, out_of_memory, bad_verdicts, refused, issuer_refused}
use Rattle.rpki_cli.specs.Answer.{issuer_malformed}
use Rattle.rpki_cli.specs.Shown.{IsLinesOf}
use Rattle.rpki_cli.specs.Refusal.{IsRefusal}
use Rattle.rpki_cli.specs.declared.causes.Causes.TheVariants.{Omitted}
use Rattle.rpki_cli.specs.declared.words.Kind.{Kind}
use Rattle.rpki_cli.specs.declared.words.Options.{Options}
use Rattle.rpki_show.specs.Kinds.{OfKind}
use Rattle.rpki_show.specs.Options.{read_mode}

-- what is said of a certificate where nobody asks whether it was revoked: a yes
abbrev pub passes : KeptCertificate → Result (Unit {0}) ValidationError → Type 0
passes cert said = said ≡ Ok tt

-- why an object is refused, as it is said
abbrev pub validation_refusal : ValidationError → Output
validation_refusal (validation.Inspection fault) = refused (inspection_text fault)
validation_refusal (validation.Verification fault) = refused (verification_text fault)
validation_refusal validation.Memory = out_of_memory

-- what is said where an object is refused, unless memory runs out
abbrev pub IsRefused : ValidationError → Output → Type 0
IsRefused fault s = (s ≡ out_of_memory) ⊎ (s ≡ validation_refusal fault)

-- why certificates make no issuer, as it is said
abbrev pub issuer_refusal : IssuerError → Output
issuer_refusal (issuing.Decode decoding.Memory) = out_of_memory
issuer_refusal (issuing.Decode decoding.Malformed) = issuer_malformed
issuer_refusal (issuing.Decode (decoding.Content fault)) = issuer_malformed
issuer_refusal (issuing.Validation (validation.Inspection fault)) =
    issuer_refused (inspection_text fault)
issuer_refusal (issuing.Validation (validation.Verification fault)) =
    issuer_refused (verification_text fault)
issuer_refusal (issuing.Validation validation.Memory) = out_of_memory

-- what is said where certificates make no issuer, unless memory runs out
abbrev pub IsIssuerRefused : IssuerError → Output → Type 0
IsIssuerRefused fault s = (s ≡ out_of_memory) ⊎ (s ≡ issuer_refusal fault)

-- the line that says that an object is good
abbrev pub yes_line : List ℕ
yes_line = codes "yes\n"

-- What is said of what a check answers: yes and the lines of the content, or why not.
abbrev pub IsCheckSaid : {X : Type 0} → (X → List ℕ) → Result (Validated × X) CheckError → Output
    → Type 0
IsCheckSaid text (Ok a) s = IsLinesOf (yes_line ++ text a.1) s
IsCheckSaid text (Err (Decode fault)) s = IsRefusal Omitted fault s
IsCheckSaid text (Err (Validation fault)) s = IsRefused fault s

-- What the check of such objects answers, and what is said of it: unless memory runs out, a yes
-- exactly where the octets begin with a good one, and where they begin with one that is not good,
-- the fault of its first check that fails.
pub record IsChecked {X : Type 0} (kind : signed.ObjectKind X) (form : List ℕ → X → Type 0)
    (text : X → List ℕ) (mode : Mode) (digest : Digester) (verdict : Verdict) (issuer : Validated)
    (now : Moment) (octets : List ℕ) (s : Output) : Type 0 where
  pub result : Result (Validated × X) CheckError
  pub first : Checks kind form mode digest verdict issuer now passes octets result
  pub exact : IsExact kind form mode digest verdict issuer now passes octets result
  pub said : IsCheckSaid text result s

-- what is said of the check of such objects, unless memory runs out
abbrev pub IsCheckedAs : {X : Type 0} → signed.ObjectKind X → (List ℕ → X → Type 0)
    → (X → List ℕ) → Mode → Digester → Verdict → Validated → Moment → List ℕ → Output → Type 0
IsCheckedAs kind form text mode digest verdict issuer now octets s =
    (s ≡ out_of_memory) ⊎ IsChecked kind form text mode digest verdict issuer now octets s

-- What is said of octets that may begin with an object of a kind, under an issuer, with these
-- options.
abbrev pub CheckedUnder : Options → Kind → Digester → Verdict → Validated → Moment → List ℕ → Output
    → Type 0
CheckedUnder options kind digest verdict issuer now octets s =
    OfKind options kind (λ X asked form text.
    IsCheckedAs asked form text (read_mode options) digest verdict issuer now octets s)

-- what is said of an object where certificates make this
abbrev pub IsSaidUnder : (Validated → Output → Type 0) → Result Validated IssuerError → Output
    → Type 0
IsSaidUnder P (Ok issuer) s = P issuer s
IsSaidUnder P (Err fault) s = IsIssuerRefused fault s

-- What is said of an object, by the octets of a trust anchor and of a chain under it: first of the
-- issuer that they make, and then of the object.
abbrev pub IsCheckedWith : Options → Kind → Digester → Verdict → Moment → List ℕ → List ℕ
    → List (List ℕ) → Output → Type 0
IsCheckedWith options kind digest verdict now object anchor chain s =
    (issuer : Result Validated IssuerError) × MakesIssuer verdict now anchor chain issuer
    × IsSaidUnder (λ v said. CheckedUnder options kind digest verdict v now object said) issuer s

-- What is said where a text is to be a list of verdicts: by `P` of its lines, if it is one, and
-- else that it is none.
abbrev pub IsByLines : (List (List ℕ) → Output → Type 0) → List ℕ → Output → Type 0
IsByLines P text s =
    (((lines : List (List ℕ)) → AreVerdicts text lines → ⊥) × (s ≡ bad_verdicts))
    ⊎ ((lines : List (List ℕ)) × AreVerdicts text lines × P lines s)

-- What is said in the same way, by `P` of the verdicts that the lines give.
abbrev pub IsByVerdicts : (Verdict → Output → Type 0) → List ℕ → Output → Type 0
IsByVerdicts P text s = IsByLines (λ lines said. P (is_listed lines) said) text s

-- What is said of files: of the object, the verdicts, the certificate of a trust anchor, and those
-- of CAs, each under the one before. Digests are SHA-256 (RFC 7935, section 2).
abbrev pub CheckOf : Options → Kind → Moment → List (List ℕ) → Output → Type 0
CheckOf options kind now (object ∷ verdicts ∷ anchor ∷ chain) s =
    IsByVerdicts
    (λ verdict said. IsCheckedWith options kind sha256 verdict now object anchor chain said)
    verdicts s
CheckOf options kind now files s = ⊥
