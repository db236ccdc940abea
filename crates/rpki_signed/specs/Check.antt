-- What is answered of octets that may begin with an object of a kind.
use Rattle.std.specs.Prelude.{ℕ, List, Result, Ok, Err}
use Rattle.rpki_der.specs.declared.mode.Mode.{Mode}
use Rattle.rpki_der.specs.Form.Decodes.{IsOnlyFront}
use Rattle.rpki_der.specs.Grammar.{Front, HasNoFront}
use Rattle.rpki_der.specs.Read.Reads.{Refuses}
use Rattle.rpki_basics.specs.Moment.{Moment}
use Rattle.rpki_faults.specs.Checks.{AllHold}
use Rattle.rpki_faults.specs.declared.validation.ValidationError.{ValidationError}
use Rattle.rpki_certs.specs.Cert.{KeptCertificate}
use Rattle.rpki_certs.specs.Validate.{Validated, IsValidatedUnder}
use Rattle.rpki_certs.specs.Verify.{Verdict}
use Rattle.rpki_sigobj.specs.Verify.{Digester}
use Rattle.rpki_sigobj.specs.Signed.Kind.{ObjectKind}
use Rattle.rpki_sigobj.specs.Signed.Process.{before_revocation, AnswersAsked}
use Rattle.rpki_sigobj.specs.Signed.{Whole, ObjectForm, cert_in}
use Rattle.rpki_signed.specs.declared.check.CheckError.{CheckError}
use Rattle.rpki_signed.specs.declared.check.CheckError.TheVariants.{Decode, Validation}

-- The octets begin with an object in the form, and with nothing else in it, and P holds of it.
pub record BeginsWith {O : Type 0} (form : List ℕ → O → Type 0) (octets : List ℕ)
    (P : O → Type 0) : Type 0 where
  pub object : O
  pub rest : List ℕ
  pub front : IsOnlyFront form octets object rest
  pub holds : P object

-- What is answered of octets: where they begin with an object, what `Answers` says of it; where
-- they begin with none, they don't decode, unless memory runs out.
abbrev pub OfFront : {X T : Type 0} → (List ℕ → Whole X → Type 0) → List ℕ
    → (Whole X → Result T ValidationError → Type 0) → Result T CheckError → Type 0
OfFront form octets Answers (Ok value) = BeginsWith form octets (λ o. Answers o (Ok value))
OfFront form octets Answers (Err (Decode e)) = Refuses e (HasNoFront form octets)
OfFront form octets Answers (Err (Validation fault)) =
    BeginsWith form octets (λ o. Answers o (Err fault))

-- The question whether the certificate was revoked may be asked, where the octets begin with an
-- object of which all checks before it hold.
abbrev pub MayAsk : {X : Type 0} → ObjectKind X → (List ℕ → X → Type 0) → Mode → Digester → Verdict
    → Validated → Moment → (KeptCertificate → Type 0) → List ℕ → Type 0
MayAsk {X} kind form mode digest verdict issuer now Takes octets =
    (o : Whole X) (rest : List ℕ) → Front (ObjectForm kind.type form mode) octets o rest
    → AllHold (before_revocation kind digest verdict o issuer now) → Takes (cert_in mode o)

-- What is answered of octets: `Decode` where they begin with no object of the kind, and else the
-- fault of the first of its checks that does not hold, in one list: what its certificate claims,
-- the object with its certificate, what was said of the certificate, and the numbers that the
-- certificate has; where all hold, the validated certificate and the content. Unless memory runs
-- out.
abbrev pub Checks : {X : Type 0} → ObjectKind X → (List ℕ → X → Type 0) → Mode → Digester → Verdict
    → Validated → Moment → (KeptCertificate → Result (Unit {0}) ValidationError → Type 0)
    → List ℕ → Result (Validated × X) CheckError → Type 0
Checks kind form mode digest verdict issuer now Says octets result =
    OfFront (ObjectForm kind.type form mode) octets
    (λ o r. AnswersAsked (before_revocation kind digest verdict o issuer now)
    (IsValidatedUnder (cert_in mode o) issuer) (Says (cert_in mode o)) (kind.held o.content)
    o.content r) result

-- What a check answers (`Checks`), where moreover `IsContent` holds of the content.
abbrev pub ChecksContent : {X : Type 0} → (X → Type 0) → ObjectKind X → (List ℕ → X → Type 0) → Mode
    → Digester → Verdict → Validated → Moment
    → (KeptCertificate → Result (Unit {0}) ValidationError → Type 0)
    → List ℕ → Result (Validated × X) CheckError → Type 0
ChecksContent IsContent kind form mode digest verdict issuer now Says octets result =
    OfFront (ObjectForm kind.type form mode) octets
    (λ o r. IsContent o.content
    × AnswersAsked (before_revocation kind digest verdict o issuer now)
    (IsValidatedUnder (cert_in mode o) issuer) (Says (cert_in mode o)) (kind.held o.content)
    o.content r) result
