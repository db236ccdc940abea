-- What the blocks of a set are that its iterator gives.
use Rattle.std.proofs.Common.{◌≡◌, ℕ, List, [], ◌∷◌, ◌+◌, map, sym, subst}
use Rattle.std.specs.Iterator.{HoldsAlong, YieldsFirst}
use Rattle.std.specs.List.{All}
use Rattle.std.proofs.lemmas.List.Elements.{All-nil, All-cons, All-head, All-rest, All-same}
use Rattle.rpki_resources.specs.Blocks.{IsBlock, IsCanonical, RisesFrom}
use Rattle.rpki_resources.specs.declared.block.Block.{Block}

-- Where P holds of all that is left, it holds of what is given.
pub given_of_left : {S A : Type 0} (rest : S → List A) (P : A → Type 0) (s : S) → All P (rest s) →
    HoldsAlong (YieldsFirst rest) s (All P)
given_of_left rest P s all [] t y = All-nil P
given_of_left rest P s all (x ∷ xs) t y =
    All-cons P x xs
    (All-head P x (rest y.0) (All-same P (x ∷ rest y.0) (rest s) (sym y.1) all))
    (given_of_left rest P y.0 (All-rest P x (rest y.0) (rest s) y.1 all) xs t y.2)

-- No block of those that ascend is empty.
pub blocks_rise : {A T : Type 0} (g : A → Block T) (f : T → ℕ) (a : ℕ) (xs : List A) →
    RisesFrom f a (map g xs) → All (λ b. IsBlock f (g b)) xs
blocks_rise g f a [] r = All-nil (λ b. IsBlock f (g b))
blocks_rise g f a (x ∷ xs) r =
    All-cons (λ b. IsBlock f (g b)) x xs r.1 (blocks_rise g f (f (g x).max + 2) xs r.2)

-- Each run of the iterator of a set gives blocks that are not empty.
pub given_blocks : {A T : Type 0} (g : A → Block T) (f : T → ℕ) (set : List (Block T))
    (it : List A) → map g it ≡ set → IsCanonical f set →
    HoldsAlong (YieldsFirst (λ s. s)) it (All (λ b. IsBlock f (g b)))
given_blocks g f set it e c =
    given_of_left (λ s. s) (λ b. IsBlock f (g b)) it
    (blocks_rise g f 0 it (subst (λ bs. RisesFrom f 0 bs) (sym e) c))
