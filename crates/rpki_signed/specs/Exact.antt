-- What is answered of octets, in words.
use Rattle.std.specs.Prelude.{◌≡◌, ◌⊎◌, ℕ, List, Result, Ok, Err}
use Rattle.rpki_der.specs.declared.mode.Mode.{Mode}
use Rattle.rpki_der.specs.Grammar.{HasNoFront}
use Rattle.rpki_der.specs.Read.Reads.{Refuses}
use Rattle.rpki_basics.specs.Moment.{Moment}
use Rattle.rpki_faults.specs.declared.validation.ValidationError.{ValidationError}
use Rattle.rpki_faults.specs.declared.validation.ValidationError.TheVariants.{Memory}
use Rattle.rpki_certs.specs.Cert.{KeptCertificate}
use Rattle.rpki_certs.specs.Validate.{Validated}
use Rattle.rpki_certs.specs.Verify.{Verdict}
use Rattle.rpki_sigobj.specs.Verify.{Digester}
use Rattle.rpki_sigobj.specs.Signed.Good.{IsGood, IsNotGood}
use Rattle.rpki_sigobj.specs.Signed.Kind.{ObjectKind}
use Rattle.rpki_sigobj.specs.Signed.{Whole, ObjectForm, cert_in}
use Rattle.rpki_signed.specs.declared.check.CheckError.{CheckError}
use Rattle.rpki_signed.specs.declared.check.CheckError.TheVariants.{Decode, Validation}
use Rattle.rpki_signed.specs.Check.{BeginsWith}

-- A yes is answered only where the octets begin with a member of the form, a yes was said of its
-- certificate, and it is good (`IsGood`); answered are its validated certificate and its content.
-- Unless memory runs out, a yes is answered exactly there, `Decode` exactly where they begin with
-- none, and `Validation` exactly where they begin with one that is not good, or of whose
-- certificate its fault was said.
abbrev pub IsExact : {X : Type 0} → ObjectKind X → (List ℕ → X → Type 0) → Mode → Digester → Verdict
    → Validated → Moment → (KeptCertificate → Result (Unit {0}) ValidationError → Type 0)
    → List ℕ → Result (Validated × X) CheckError → Type 0
IsExact {X} kind form mode digest verdict issuer now Says octets (Ok a) =
    BeginsWith (ObjectForm kind.type form mode) octets (λ (o : Whole X).
    Says (cert_in mode o) (Ok tt) × IsGood kind mode digest verdict issuer now o a.0
    × (a.1 ≡ o.content))
IsExact kind form mode digest verdict issuer now Says octets (Err (Decode e)) =
    Refuses e (HasNoFront (ObjectForm kind.type form mode) octets)
IsExact {X} kind form mode digest verdict issuer now Says octets (Err (Validation fault)) =
    BeginsWith (ObjectForm kind.type form mode) octets (λ (o : Whole X).
    (fault ≡ Memory)
    ⊎ IsNotGood kind mode digest verdict issuer now (Says (cert_in mode o)) o fault)
