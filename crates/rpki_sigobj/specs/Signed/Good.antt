-- What it means that octets begin with a good object of a kind.
use Rattle.std.specs.Prelude.{◌↔◌, Result, Err}
use Rattle.rpki_der.specs.declared.mode.Mode.{Mode}
use Rattle.rpki_basics.specs.Moment.{Moment}
use Rattle.rpki_faults.specs.Checks.{AllHold}
use Rattle.rpki_faults.specs.declared.validation.ValidationError.{ValidationError}
use Rattle.rpki_extensions.specs.declared.claims.Claims.{Claims}
use Rattle.rpki_certs.specs.Validate.{Sets, Validated, AreValidated, IsValidatedUnder}
use Rattle.rpki_certs.specs.Verify.{Verdict}
use Rattle.rpki_sigobj.specs.Verify.{Digester}
use Rattle.rpki_sigobj.specs.Signed.Kind.{ObjectKind}
use Rattle.rpki_sigobj.specs.Signed.Process.{validation}
use Rattle.rpki_sigobj.specs.Signed.{Whole, cert_in}

-- An object is good under this issuer, at this moment, but for what is said of its certificate: it
-- is valid, and the numbers that its kind asks for (the prefixes of a ROA, the customer of an ASPA,
-- the numbers of a checklist, of a manifest none) lie in the sets of v, its certificate as it is
-- validated under this issuer. That of an ASPA claims the customer and nothing else.
pub record IsGood {X : Type 0} (kind : ObjectKind X) (mode : Mode) (digest : Digester)
    (verdict : Verdict) (issuer : Validated) (now : Moment) (o : Whole X) (v : Validated)
    : Type 0 where
  pub valid : AllHold (validation kind.is_published digest verdict o.object.signed issuer now)
  pub certificate : IsValidatedUnder (cert_in mode o) issuer v
  pub covered : kind.covers o.content o.object.signed.cert.tbs.extensions.claims v.sets

-- The object is good under no validated certificate, or the caller, asked of that certificate,
-- answered this fault.
abbrev pub IsNotGood : {X : Type 0} → ObjectKind X → Mode → Digester → Verdict → Validated → Moment
    → (Result (Unit {0}) ValidationError → Type 0) → Whole X → ValidationError → Type 0
IsNotGood kind mode digest verdict issuer now Says o fault =
    (v : Validated) → IsGood kind mode digest verdict issuer now o v → Says (Err fault)

-- What the checks of a kind mean for a content, by the sets of the validated certificate, which are
-- determined up to how they are written.
pub record Means {X : Type 0} (kind : ObjectKind X) (x : X) : Type 0 where
  pub checks : (c : Claims) (issuer sets : Sets) → AreValidated c issuer sets
      → (AllHold (kind.claimed x c) × AllHold (kind.held x sets)) ↔ kind.covers x c sets
  pub same : (c : Claims) (issuer a b : Sets) → AreValidated c issuer a
      → AreValidated c issuer b → kind.covers x c a → kind.covers x c b
