-- Signed objects that were read, beside their octets.
use Rattle.std.proofs.Common.{◌≡◌, ℕ, List, Result, Ok, refl, sym, subst}
use Rattle.rpki_der.specs.declared.mode.Mode.{Mode}
use Rattle.rpki_der.specs.declared.error.DecodeError.{DecodeError}
use Rattle.rpki_der.specs.Captured.{Kept}
use Rattle.rpki_der.specs.Grammar.{IsBytes}
use Rattle.rpki_der.specs.Form.Made.{with_octets}
use Rattle.rpki_der.specs.Read.Parse.{Parser}
use Rattle.rpki_der.specs.Read.Reads.{Reads}
use Rattle.rpki_der.specs.Read.State.{State}
use Rattle.rpki_der.proofs.Form.Words.{keep}
use Rattle.rpki_der.proofs.Reading.Calls.{reads-ok}
use Rattle.rpki_sigobj.specs.Object.{SignedData, KeptData, SignedForm, IsKept, info_at, object_of}
use Rattle.rpki_sigobj.proofs.Objects.Exact.{InfoForm, info-part}

-- what was read and kept
abbrev pub read_of : KeptData × Kept → SignedData × List ℕ
read_of k = (k.0.signed, k.1.octets)

abbrev pub whole_at : Parser (SignedData × List ℕ)
whole_at = with_octets info_at

-- what was read is a signed object
pub kept-of : (old : State) (kept : KeptData) (k : Kept) (new : State) → IsBytes old.rest
    → (let r : Result (KeptData × Kept) DecodeError = Ok (kept, k) in
    Reads read_of whole_at old r new)
    → k.mode ≡ old.mode
    → IsKept (record { object = object_of (kept.signed, k.octets); mode = k.mode })
kept-of old kept k new bytes reads mode =
    let r = reads-ok read_of whole_at old (kept, k) new reads in
    let f = ((keep info-part).exact old.mode).sound old.rest (kept.signed, k.octets) new.rest
    bytes r.found in
    subst (λ (m : Mode). SignedForm m k.octets (object_of (kept.signed, k.octets))) (sym mode)
    (refl, subst (λ (o : List ℕ). InfoForm old.mode o kept.signed) (sym f.2.1) f.2.0)
