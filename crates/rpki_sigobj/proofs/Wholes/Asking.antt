-- What is answered where a question is asked between checks.
use Rattle.std.proofs.Common.{◌≡◌, ◌⊎◌, inl, inr, List, ◌++◌, Result, Ok, Err, refl}
use Rattle.rpki_faults.specs.Checks.{Check, AllHold, IsFirstFault}
use Rattle.rpki_faults.specs.declared.validation.ValidationError.{ValidationError}
use Rattle.rpki_faults.specs.declared.validation.ValidationError.TheVariants.{Memory}
use Rattle.rpki_faults.proofs.Order.{first-fails, first-join, hold-join}
use Rattle.rpki_certs.specs.Validate.{Sets, Validated, IsValidatedUnder}
use Rattle.rpki_sigobj.specs.Object.{KeptObject, cert_of}
use Rattle.rpki_sigobj.specs.Validate.{IsCertUnder}
use Rattle.rpki_sigobj.specs.Signed.Process.{said_checks, AnswersAsked}

module _ {X : Type 0} (before : List (Check ValidationError)) (IsValid : Validated → Type 0)
    (Says : Result (Unit {0}) ValidationError → Type 0)
    (held : Sets → List (Check ValidationError)) (content : X) where
  abbrev Answers : Result (Validated × X) ValidationError → Type 0
  Answers = AnswersAsked before IsValid Says held content

  -- a check before the question does not hold: no certificate is valid
  pub not-asked : (any : Validated) (fault : ValidationError)
      → (fault ≡ Memory) ⊎ IsFirstFault before fault → Answers (Err fault)
  not-asked any fault (inl h) = inl (rw h refl)
  not-asked any fault (inr h) = inr (record {
    valid = any;
    said = Ok tt;
    asked = λ all. absurd (first-fails before fault h all);
    first = first-join before (held any.sets) fault (inl h);
  })

  module _ (all : AllHold before) (valid : Validated) (is : IsValid valid)
      (said : Result (Unit {0}) ValidationError) (says : Says said) where
    -- the question, or a check after it, is answered by a no
    pub refused-after : (fault : ValidationError)
        → IsFirstFault (said_checks said ++ held valid.sets) fault → Answers (Err fault)
    refused-after fault h = inr (record {
      valid = valid;
      said = said;
      asked = λ _. (is, says);
      first = first-join before (said_checks said ++ held valid.sets) fault (inr (all, h));
    })

    -- all checks hold
    pub all-held : AllHold (said_checks said ++ held valid.sets) → Answers (Ok (valid, content))
    all-held h = inr (record {
      valid = valid;
      said = said;
      asked = λ _. (is, says);
      first = (hold-join before (said_checks said ++ held valid.sets) (all, h), (refl, refl));
    })

-- the validated certificate is that of the object
pub cert-under : (k : KeptObject) (issuer v : Validated) → IsCertUnder k issuer v
    → v.cert ≡ cert_of k
unfolding IsValidatedUnder
cert-under k issuer v h = h.0
