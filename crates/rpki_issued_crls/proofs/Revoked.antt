-- Entries that are pushed and written.
use Rattle.std.proofs.Common.{◌≡◌, ℕ, zero, suc, List, [], ◌∷◌, ◌++◌, None, Some, refl, sym, subst}
use Rattle.std.proofs.Common.{arith}
use Rattle.std.specs.Prelude.{All, Any, Contains, map}
use Rattle.std.specs.List.{flat_map}
use Rattle.std.proofs.lemmas.List.{append-nil}
use Rattle.std.proofs.lemmas.List.Elements.{All-nil, All-cons, All-head, All-tail, All-append}
use Rattle.rpki_der.specs.declared.mode.Mode.TheVariants.{Der}
use Rattle.rpki_der.specs.Grammar.{Items}
use Rattle.rpki_der.specs.Tags.{SEQUENCE}
use Rattle.rpki_der.specs.Write.Parts.{contents_small, length_parts}
use Rattle.rpki_der.proofs.Form.Keyed.{any-here, any-there}
use Rattle.rpki_basics.specs.Serial.{serial_octets}
use Rattle.rpki_basics.specs.Time.Form.{time_octets}
use Rattle.rpki_basics.proofs.Serials.Written.{serial-written}
use Rattle.rpki_basics.proofs.Times.Written.{time-written}
use Rattle.rpki_crls.specs.Entry.{CrlEntryForm, RevokedForm}
use Rattle.rpki_issued.proofs.Parts.{Short, short-value}
use Rattle.rpki_issued_crls.specs.declared.entry.RevokedCert.{RevokedCert}
use Rattle.rpki_issued_crls.specs.Lists.{IsRevokedToWrite, entry_octets}
use Rattle.rpki_issued_crls.specs.Lists.{revoked_octets, serial_of}

-- one more entry that can be written
pub one_more : (rs : List RevokedCert) (r : RevokedCert) → All IsRevokedToWrite rs
    → IsRevokedToWrite r → All IsRevokedToWrite (rs ++ r ∷ [])
one_more rs r h one =
    All-append IsRevokedToWrite rs (r ∷ []) h
    (All-cons IsRevokedToWrite r [] one (All-nil IsRevokedToWrite))

entry-written : (r : RevokedCert) → IsRevokedToWrite r → Short (entry_octets r)
    → CrlEntryForm Der (entry_octets r) (serial_of r)
entry-written r h short =
    let a : List ℕ = serial_octets r.serial in
    let b : List ℕ = time_octets r.time in (
      a ++ b,
      short-value SEQUENCE (a ++ b) refl short,
      (
        a,
        b,
        refl,
        serial-written r.serial h.serial,
        (
          b,
          [],
          sym (append-nil b),
          (r.time, time-written r.time h.time),
          ([], [], refl, (None, refl), refl),
        ),
      ),
    )

entries-written : (rs : List RevokedCert) → All IsRevokedToWrite rs
    → Short (flat_map entry_octets rs)
    → Items (CrlEntryForm Der) (flat_map entry_octets rs) (map serial_of rs)
entries-written [] h short = refl
entries-written (r ∷ rs) h short =
    let each = length_parts (entry_octets r) (flat_map entry_octets rs) short in (
      entry_octets r,
      flat_map entry_octets rs,
      refl,
      entry-written r (All-head IsRevokedToWrite r rs h) each.0,
      entries-written rs (All-tail IsRevokedToWrite r rs h) each.1,
    )

pub revoked-written : (rs : List RevokedCert) → All IsRevokedToWrite rs
    → Short (revoked_octets rs) → RevokedForm Der (revoked_octets rs) (map serial_of rs)
revoked-written [] h short = (None, refl, refl)
revoked-written (r ∷ rs) h short =
    let c : List ℕ = flat_map entry_octets (r ∷ rs) in (
      Some (map serial_of (r ∷ rs)),
      (
        c,
        short-value SEQUENCE c refl short,
        entries-written (r ∷ rs) h (contents_small SEQUENCE c short),
      ),
      refl,
    )

-- ---- whose serial number it is

-- The entry has this serial number.
abbrev HasSerial : ℕ → RevokedCert → Type 0
HasSerial serial r = serial_of r ≡ serial

pub some-has : (rs : List RevokedCert) (serial : ℕ) → Contains (map serial_of rs) serial
    → Any (λ r. serial_of r ≡ serial) rs
some-has [] serial h = absurd (omega (arith, h.1))
some-has (r ∷ rs) serial (zero, lt, is) = any-here (HasSerial serial) r rs is
some-has (r ∷ rs) serial (suc k, lt, is) =
    any-there (HasSerial serial) r rs (some-has rs serial (k, omega (arith, lt), is))

pub has-some : (rs : List RevokedCert) (serial : ℕ) → Any (λ r. serial_of r ≡ serial) rs
    → Contains (map serial_of rs) serial
has-some [] serial h = absurd (omega (arith, h.2))
has-some (r ∷ rs) serial (zero, x, lt, is, has) =
    (zero, omega arith, subst (HasSerial serial) (sym is) has)
has-some (r ∷ rs) serial (suc k, x, lt, is, has) =
    let c : Contains (map serial_of rs) serial =
    has-some rs serial (k, x, omega (arith, lt), is, has) in
    (suc c.0, omega (arith, c.1), c.2)
