-- Octets that hold an object of a CA: it is one with its content.
use Rattle.std.proofs.Common.{◌≡◌, ℕ, List, Result, Ok, Err, sym, ap, refl}
use Rattle.rpki_der.specs.declared.mode.Mode.TheVariants.{Der}
use Rattle.rpki_der.specs.Form.Decodes.{IsOnlyFront}
use Rattle.rpki_der.specs.Grammar.{HasNoFront}
use Rattle.rpki_der.specs.Read.Reads.{Refuses}
use Rattle.rpki_der.specs.declared.error.DecodeError.{DecodeError}
use Rattle.rpki_der.specs.declared.error.DecodeError.TheVariants as errors
use Rattle.rpki_basics.specs.Moment.{Moment}
use Rattle.rpki_crls.specs.Crl.{RevocationList}
use Rattle.rpki_faults.specs.declared.validation.ValidationError.{ValidationError}
use Rattle.rpki_certs.specs.Cert.{KeptCertificate}
use Rattle.rpki_certs.specs.Validate.{Validated, IsValidatedUnder}
use Rattle.rpki_certs.specs.Verify.{Verdict}
use Rattle.rpki_sigobj.specs.Signed.Kind.{ObjectKind}
use Rattle.rpki_sigobj.specs.Verify.{Digester}
use Rattle.rpki_signed.specs.Check.{Checks}
use Rattle.rpki_signed.specs.Exact.{IsExact}
use Rattle.rpki_signed.specs.declared.check.CheckError.{CheckError}
use Rattle.rpki_signed.specs.declared.check.CheckError.TheVariants as checks
use Rattle.rpki_relying_party.specs.Memory.{IsCheckMemory, plain_check}
use Rattle.rpki_relying_party.specs.Setting.{Setting}
use Rattle.rpki_relying_party.specs.Tells.{HasContent}
use Rattle.rpki_relying_party.specs.Under.{SaysOf}

-- where octets are refused, they begin with nothing of the form, unless memory ran out
pub refuses : {X : Type 0} (form : List ℕ → X → Type 0) (octets : List ℕ) (x : X) (rest : List ℕ)
    (e : DecodeError) → Refuses e (HasNoFront form octets) → IsOnlyFront form octets x rest
    → e ≡ errors.Memory
refuses form octets x rest errors.Memory h front = refl
refuses form octets x rest errors.Malformed h front = absurd (h x rest front.found)
refuses form octets x rest (errors.Content fault) h front = absurd (h x rest front.found)

pub malformed-memory : errors.Malformed ≡ errors.Memory → ⊥
malformed-memory e = absurd cc

-- a fault without what it has of the octets refuses them as well
pub plain-object : {X : Type 0} (kind : ObjectKind X) (form : List ℕ → X → Type 0)
    (digest : Digester) (verdict : Verdict) (ca : Validated) (now : Moment)
    (Says : KeptCertificate → Result (Unit {0}) ValidationError → Type 0) (octets : List ℕ)
    (error : CheckError) → Checks kind form Der digest verdict ca now Says octets (Err error)
    → (¬ IsCheckMemory error)
    → Checks kind form Der digest verdict ca now Says octets (Err (plain_check error))
    × (¬ IsCheckMemory (plain_check error)) × (plain_check (plain_check error) ≡ plain_check error)
plain-object kind form digest verdict ca now Says octets (checks.Decode errors.Memory) h m =
    absurd (m refl)
plain-object kind form digest verdict ca now Says octets (checks.Decode errors.Malformed) h m =
    (h, malformed-memory, refl)
plain-object kind form digest verdict ca now Says octets (checks.Decode (errors.Content f)) h m =
    (h, malformed-memory, refl)
plain-object kind form digest verdict ca now Says octets (checks.Validation fault) h m =
    (h, m, refl)

-- what was validated is the certificate
same-cert : (k : KeptCertificate) (issuer v : Validated) → IsValidatedUnder k issuer v
    → k.certificate ≡ v.cert.certificate
unfolding IsValidatedUnder
same-cert k issuer v h = sym (ap (λ (c : KeptCertificate). c.certificate) (h.0))

module _ {X : Type 0} (s : Setting) (kind : ObjectKind X) (form : List ℕ → X → Type 0)
    (ca : Validated) (list : RevocationList) (octets : List ℕ) where
  -- what is answered is an object with its certificate
  pub has-content : (a : Validated × X)
      → IsExact kind form Der s.digest s.verdict ca s.now (SaysOf list) octets (Ok a)
      → HasContent s kind form ca list octets (a.0.cert.certificate) (a.1)
  has-content a h = record {
    object = h.object;
    rest = h.rest;
    front = h.front;
    holds = (
      (a.0, h.holds.1),
      (h.holds.0.0, same-cert _ ca (a.0) h.holds.1.certificate, sym (h.holds.2)),
    );
  }
