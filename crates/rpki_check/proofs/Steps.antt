-- Rows and copies, one by one.
use Rattle.std.proofs.Common.{◌≡◌, ◌∙◌, ℕ, zero, suc, ◌+◌, ◌<◌, List, [], ◌∷◌, ◌++◌, length, map}
use Rattle.std.proofs.Common.{ap, append_assoc, arith, get_or, refl, subst, sym, take}

-- a row more, and an item less
pub pushed : {X Y : Type 0} (f : X → Y) (items more : List Y) (p : Y) (a : X) (old new : List X)
    (all : List Y) → more ≡ items ++ p ∷ [] → p ≡ f a → old ≡ a ∷ new
    → items ++ map f old ≡ all → more ++ map f new ≡ all
pushed {X} {Y} f items more p a old new all e g h i =
    let k : items ++ map f (a ∷ new) ≡ all =
    subst (λ (o : List X). items ++ map f o ≡ all) h i in
    subst (λ (q : List Y). q ++ map f new ≡ all) (sym e)
    (subst (λ (y : Y). (items ++ y ∷ []) ++ map f new ≡ all) (sym g)
    (append_assoc items (f a ∷ []) (map f new) ∙ k))

map-step : {X Y : Type 0} (f : X → Y) (items : List X) (i : ℕ) (d : X) → i < length items
    → map f (take (suc i) items) ≡ map f (take i items) ++ f (get_or items i d) ∷ []
map-step f [] i d l = absurd (omega (arith, l))
map-step f (x ∷ xs) zero d l = refl
map-step {X} {Y} f (x ∷ xs) (suc i) d l =
    ap (λ (ys : List Y). f x ∷ ys) (map-step f xs i d (omega (arith, l)))

-- the images of one item more
pub map-more : {X Y : Type 0} (f : X → Y) (items : List X) (i : ℕ) (d : X) → i < length items
    → map f (take (i + 1) items) ≡ map f (take i items) ++ f (get_or items i d) ∷ []
map-more {X} {Y} f items i d l =
    let same : i + 1 ≡ suc i = omega arith in
    ap (λ (n : ℕ). map f (take n items)) same ∙ map-step f items i d l
