-- how blocks are named, and what numbers a name speaks of
use Rattle.std.proofs.Common.{◌≡◌, ℕ, List, [], ◌∷◌, Bool, true, false, ◌==◌, map, All, refl}
use Rattle.std.specs.Prelude.{if◌then◌else◌}
use Rattle.std.proofs.lemmas.Bool.{eqb-true}
use Rattle.std.proofs.lemmas.List.Elements.{All-nil, All-cons, All-head, All-tail}
use Rattle.rpki_resources.specs.declared.block.Block.{Block}
use Rattle.rpki_resources.specs.declared.asn.AsBlock.TheVariants.{Id, Range}
use Rattle.rpki_resources.specs.As.{as_block, as_range}

-- the name of a block speaks of its numbers
as_range-by : (t : Bool) (b : Block ℕ) → (b.min == b.max) ≡ t
    → as_range (if t then Id b.min else Range b.min b.max) ≡ b
as_range-by true b e = let s = eqb-true b.min b.max e in λ i. record { min = b.min; max = s i }
as_range-by false b e = refl

pub as_range-as_block : (b : Block ℕ) → as_range (as_block b) ≡ b
as_range-as_block b = as_range-by (b.min == b.max) b refl

pub as-ranges : (bs : List (Block ℕ)) → map as_range (map as_block bs) ≡ bs
as-ranges [] = refl
as-ranges (b ∷ bs) = let first = as_range-as_block b in let others = as-ranges bs in
    λ i. first i ∷ others i

-- a fact of each item's numbers, said of the numbers
pub All-map : {X Y : Type 0} (f : X → Y) (P : Y → Type 0) (xs : List X) → All (λ x. P (f x)) xs
    → All P (map f xs)
All-map f P [] h = All-nil P
All-map f P (x ∷ xs) h =
    All-cons P (f x) (map f xs) (All-head (λ y. P (f y)) x xs h)
    (All-map f P xs (All-tail (λ y. P (f y)) x xs h))
