-- The validation of objects with their contents: what is checked, and in which order.
use Rattle.std.specs.Prelude.{◌≡◌, ◌⊎◌, List, [], ◌∷◌, ◌++◌, Bool, true, false, Result, Ok, Err}
use Rattle.rpki_basics.specs.Moment.{Moment}
use Rattle.rpki_faults.specs.Checks.{Check, ◌unless◌, AllHold, AnswersFirst, AnswersFirstFault}
use Rattle.rpki_faults.specs.declared.validation.ValidationError.{ValidationError}
use Rattle.rpki_faults.specs.declared.validation.ValidationError.TheVariants.{Memory}
use Rattle.rpki_certs.specs.Validate.{Sets, Validated}
use Rattle.rpki_certs.specs.Verify.{Verdict}
use Rattle.rpki_sigobj.specs.Object.{SignedData}
use Rattle.rpki_sigobj.specs.Validate.{object_validation, detached_validation}
use Rattle.rpki_sigobj.specs.Verify.{Digester}
use Rattle.rpki_sigobj.specs.Signed.Kind.{ObjectKind}
use Rattle.rpki_sigobj.specs.Signed.{Whole}

-- A signed object is valid under this issuer, as one that is published (RFC 6488, section 3), or as
-- one that need not be (RFC 9323, section 2).
abbrev pub validation : Bool → Digester → Verdict → SignedData → Validated → Moment
    → List (Check ValidationError)
validation true digest verdict s issuer now = object_validation digest verdict s issuer now
validation false digest verdict s issuer now = detached_validation digest verdict s issuer now

-- What is checked before it is asked whether the certificate was revoked: what it claims, and then
-- the object.
abbrev pub before_revocation : {X : Type 0} → ObjectKind X → Digester → Verdict → Whole X
    → Validated → Moment → List (Check ValidationError)
before_revocation kind digest verdict o issuer now =
    kind.claimed o.content o.object.signed.cert.tbs.extensions.claims
    ++ validation kind.is_published digest verdict o.object.signed issuer now

-- What the caller said of the certificate has to be a yes (RFC 6487, section 7.2).
abbrev pub said_checks : Result (Unit {0}) ValidationError → List (Check ValidationError)
said_checks (Ok done) = []
said_checks (Err fault) = (fault unless ⊥) ∷ []

-- What is answered by a question and the checks after it: what was said of it is the first check.
abbrev pub AsksFirst : (Result (Unit {0}) ValidationError → Type 0) → List (Check ValidationError)
    → Result (Unit {0}) ValidationError → Type 0
AsksFirst Says later result =
    (said : Result (Unit {0}) ValidationError) × Says said
    × AnswersFirstFault (said_checks said ++ later) result

-- What is answered where checks come before the question whether the certificate was revoked, and
-- after it. It is asked where those before it hold: then `IsValid` holds of `valid`, the validated
-- certificate, and `said` is what was said. A value means that all hold, a yes being said, and is
-- `valid` with the content; a fault is that of the first check that does not hold.
pub record IsProcessed {X : Type 0} (before : List (Check ValidationError))
    (IsValid : Validated → Type 0) (Says : Result (Unit {0}) ValidationError → Type 0)
    (held : Sets → List (Check ValidationError)) (content : X)
    (result : Result (Validated × X) ValidationError) : Type 0 where
  pub valid : Validated
  pub said : Result (Unit {0}) ValidationError
  pub asked : AllHold before → IsValid valid × Says said
  pub first : AnswersFirst (before ++ (said_checks said ++ held valid.sets))
      (λ (a : Validated × X). (a.0 ≡ valid) × (a.1 ≡ content)) result

-- What `IsProcessed` says, unless memory runs out.
abbrev pub AnswersAsked : {X : Type 0} → List (Check ValidationError) → (Validated → Type 0)
    → (Result (Unit {0}) ValidationError → Type 0) → (Sets → List (Check ValidationError)) → X
    → Result (Validated × X) ValidationError → Type 0
AnswersAsked before IsValid Says held content result =
    (result ≡ Err Memory) ⊎ IsProcessed before IsValid Says held content result
