-- One serial number has one list of digits.
use Rattle.std.proofs.Common.{◌≡◌, ℕ, List, Bool, true, false, refl, sym, ap}
use Rattle.std.proofs.Common.{◌∙◌}
use Rattle.std.specs.Prelude.{bytes_eq, ◌==◌}
use Rattle.std.proofs.lemmas.Slice.Eq.{bytes_eq-Decides}
use Rattle.std.proofs.lemmas.Bool.{eq-eqb, ne_eqb}
use Rattle.rpki_der.specs.Numbers.{number}
use Rattle.rpki_basics.specs.Digits.{digits_again}
use Rattle.rpki_basics.specs.Serial.{digits, IsDigits}

pub same-number : (xs ys : List ℕ) → IsDigits xs → IsDigits ys
    → bytes_eq xs ys ≡ (number 0 xs == number 0 ys)
same-number xs ys h k = at (bytes_eq xs ys) refl
  where
    at : (t : Bool) → bytes_eq xs ys ≡ t → t ≡ (number 0 xs == number 0 ys)
    at true e = sym (eq-eqb _ _ (ap (number 0) ((bytes_eq-Decides xs ys).0 e)))
    at false e = sym (ne_eqb _ _ (λ q.
        let same : xs ≡ ys = sym (digits_again xs h) ∙ ap (digits 20) q ∙ digits_again ys k in
        absurd (let no_way : true ≡ false = sym ((bytes_eq-Decides xs ys).1 same) ∙ e in cc)))
