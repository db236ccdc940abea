-- What several calls of a reader have read, one after the other.
use Rattle.std.proofs.Common.{◌≡◌, ℕ, List, Option, Some, None, Ok, refl, ◌∙◌}
use Rattle.rpki_der.specs.declared.mode.Mode.{Mode}
use Rattle.rpki_der.specs.Form.Parts.{context_at}
use Rattle.rpki_der.specs.Read.State.{State}
use Rattle.rpki_der.specs.Read.Parse.{Parser, ◌>>=◌, primitive, this, u160_at}
use Rattle.rpki_der.specs.Read.Reads.{Reads}
use Rattle.rpki_der.specs.Tags.{INTEGER}
use Rattle.rpki_der.proofs.Reading.Calls.{reads-ok}
use Rattle.rpki_basics.specs.Algorithm.{cert_algorithm_at}
use Rattle.rpki_basics.specs.Key.{key_at}
use Rattle.rpki_basics.specs.Name.{name_at}
use Rattle.rpki_basics.specs.Moment.{Period}
use Rattle.rpki_extensions.specs.declared.extensions.Extensions.{Extensions}
use Rattle.rpki_extensions.specs.Extensions.{extensions_at}
use Rattle.rpki_certs.specs.Cert.{Tbs, v3, validity_at, tbs_fields_at}

-- Calls have read from old to mid, and none has refused.
pub record HasRead (old mid : State) : Type 0 where
  pub before : old.failed ≡ None
  pub after : mid.failed ≡ None
  pub mode : mid.mode ≡ old.mode

module _ {T X : Type 0} (view : T → X) (p : Parser X) where
  -- the first call
  pub first : (old : State) (t : T) (new : State) → Reads view p old (Ok t) new
      → HasRead old new × (p old.mode old.rest ≡ Some (view t, new.rest))
  first old t new h = let r = reads-ok view p old t new h in
      (record { before = r.before; after = r.after; mode = r.mode }, r.found)

  -- one more call
  pub next : (old mid : State) (t : T) (new : State) → HasRead old mid
      → Reads view p mid (Ok t) new
      → HasRead old new × (p old.mode mid.rest ≡ Some (view t, new.rest))
  next old mid t new begun h = let r = reads-ok view p mid t new h in (
    record { before = begun.before; after = r.after; mode = r.mode ∙ begun.mode },
    rw (← begun.mode) r.found,
  )

-- all was read
pub ends : {T Y : Type 0} (view : T → Y) (whole : Parser Y) (old : State) (t : T) (new : State)
    → HasRead old new → whole old.mode old.rest ≡ Some (view t, new.rest)
    → Reads view whole old (Ok t) new
ends view whole old t new begun found = (begun.mode, rw begun.before (found, begun.after))

-- what is found of the fields that are signed, by what is found last
pub tbs-found : (mode : Mode) (b r1 r2 r3 r4 r5 r6 r7 : List ℕ) (u v : Unit {0}) (serial : ℕ)
    (issuer : List ℕ) (validity : Period) (subject key : List ℕ)
    (found : Option (Extensions × List ℕ))
    → context_at 0 (primitive INTEGER (this v3)) mode b ≡ Some (u, r1)
    → u160_at mode r1 ≡ Some (serial, r2) → cert_algorithm_at mode r2 ≡ Some (v, r3)
    → name_at mode r3 ≡ Some (issuer, r4) → validity_at mode r4 ≡ Some (validity, r5)
    → name_at mode r5 ≡ Some (subject, r6) → key_at mode r6 ≡ Some (key, r7)
    → context_at 3 extensions_at mode r7 ≡ found
    → tbs_fields_at mode b ≡ (found >>= λ x. (let r : Option (Tbs × List ℕ) = Some (
      record {
        serial_number = serial;
        issuer = issuer;
        validity = validity;
        subject = subject;
        key = key;
        extensions = x.0;
      },
      x.1,
    ) in r))
unfolding tbs_fields_at
tbs-found mode b r1 r2 r3 r4 r5 r6 r7 u v serial issuer validity subject key found
    e1 e2 e3 e4 e5 e6 e7 e8 = rw e1 (rw e2 (rw e3 (rw e4 (rw e5 (rw e6 (rw e7 (rw e8 refl)))))))
