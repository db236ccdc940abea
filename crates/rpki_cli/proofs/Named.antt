-- Whether files have names.
use Rattle.std.proofs.Common.{◌≡◌, ◌==◌, ◌<◌, ◌&&◌, not, length, get_or, ℕ, List, [], ◌∷◌, map}
use Rattle.std.proofs.Common.{Bool, true, false, zero, suc, arith, refl}
use Rattle.rpki_cli.specs.Words.{are_named}

after : (a b : Bool) → b ≡ false → (a && b) ≡ false
after true b e = e
after false b e = refl

first-not : (a b : Bool) → a ≡ true → (not a && b) ≡ false
first-not true b e = refl
first-not false b e = cc

both : (a b : Bool) → a ≡ false → b ≡ true → (not a && b) ≡ true
both true b e h = cc
both false b e h = h

module _ {T : Type 0} (name : T → List ℕ) where
  pub unnamed : (files : List T) (k : ℕ) (d : T) → k < length files
      → (length (name (get_or files k d)) == 0) ≡ true → are_named (map name files) ≡ false
  unnamed [] k d l e = absurd (omega (arith, l))
  unnamed (f ∷ fs) zero d l e = first-not (length (name f) == 0) (are_named (map name fs)) e
  unnamed (f ∷ fs) (suc k) d l e =
      after (not (length (name f) == 0)) (are_named (map name fs))
      (unnamed fs k d (omega (arith, l)) e)

  pub named : (files : List T)
      → ((k : ℕ) (d : T) → k < length files → (length (name (get_or files k d)) == 0) ≡ false)
      → are_named (map name files) ≡ true
  named [] h = refl
  named (f ∷ fs) h = both (length (name f) == 0) (are_named (map name fs)) (h 0 f (omega arith))
      (named fs (λ k d l. h (suc k) d (omega (arith, l))))
