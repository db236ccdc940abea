-- What runs under locators come to, one by one.
use Rattle.std.proofs.Common.{◌<◌, ◌+◌, ℕ, List, [], ◌∷◌, ◌++◌, sym, subst}
use Rattle.std.proofs.Common.{get_or, length, take}
use Rattle.std.proofs.lemmas.List.{take_more}
use Rattle.std.proofs.lemmas.Slice.Zip.{all_zipped_more}
use Rattle.std.specs.List.{AllZip}

-- one run more
pub run-more : {A B : Type 0} (R : A → B → Type 0) (xs : List A) (place : ℕ) (d : A)
    (ys : List B) (y : B) → place < length xs → AllZip R (take place xs) ys
    → R (get_or xs place d) y → AllZip R (take (place + 1) xs) (ys ++ y ∷ [])
run-more {A} {B} R xs place d ys y l h r =
    subst (λ (l : List A). AllZip R l (ys ++ y ∷ [])) (sym (take_more xs place d l))
    (all_zipped_more R (take place xs) ys (get_or xs place d) y h r)
