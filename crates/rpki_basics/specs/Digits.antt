-- Lemmas that `inverse_ok` of `Serial` names: a ghost member may name no file of proofs/.
use Rattle.std.proofs.Common.{◌≡◌, ℕ, ◌+◌, ◌*◌, ◌/◌, ◌%◌, ◌^◌, ◌<◌, List, [], ◌∷◌, length, refl}
use Rattle.std.proofs.Common.{sym, ap, ◌∙◌}
use Rattle.std.proofs.lemmas.Nat.{div-mul-add, mod-mul-add}
use Rattle.rpki_der.specs.Numbers.{number}
use Rattle.rpki_der.specs.Grammar.{IsBytes}
use Rattle.rpki_der.proofs.Reading.Digits.{number-head, number-below}
use Rattle.rpki_basics.specs.Serial.{digits, IsDigits}

-- the digits of a number that has these
pub digits-of : (ds : List ℕ) → IsBytes ds → digits (length ds) (number 0 ds) ≡ ds
unfolding digits
digits-of [] h = refl
digits-of (d ∷ ds) h =
    let r : number 0 ds < 256 ^ length ds = number-below ds h.1 in
    let f : number (0 * 256 + d) ds ≡ d * 256 ^ length ds + number 0 ds = number-head d ds in
    let high : number (0 * 256 + d) ds / 256 ^ length ds ≡ d = ap (λ (m : ℕ). m / 256 ^ length ds) f
    ∙ div-mul-add d (256 ^ length ds) (number 0 ds) r in
    let low : number (0 * 256 + d) ds % 256 ^ length ds ≡ number 0 ds =
    ap (λ (m : ℕ). m % 256 ^ length ds) f ∙ mod-mul-add d (256 ^ length ds) (number 0 ds) r in
    rw (high, low, digits-of ds h.1) refl

-- The law that twenty octets are the digits of the number that they are.
pub digits_again : (ds : List ℕ) → IsDigits ds → digits 20 (number 0 ds) ≡ ds
digits_again ds h = ap (λ (k : ℕ). digits k (number 0 ds)) (sym h.0) ∙ digits-of ds h.1
