-- Parts that are written one after another.
use Rattle.std.specs.Prelude.{ℕ, ◌<◌, ◌^◌, List, [], ◌++◌, length, All, Option, None, Some}
use Rattle.std.specs.List.{flat_map}
use Rattle.std.proofs.Common.{arith, length-append}
use Rattle.std.proofs.lemmas.List.Folds.{length-flat_map-take}
use Rattle.rpki_der.specs.Write.Written.{length_octets, value_octets}

-- where both together have fewer than 2^32 octets, so has each
pub length_parts : (xs ys : List ℕ) → length (xs ++ ys) < 2 ^ 32
    → (length xs < 2 ^ 32) × (length ys < 2 ^ 32)
length_parts xs ys h = (omega (arith, length-append xs ys), omega (arith, length-append xs ys))

-- where both together have fewer than 2^32 octets, what follows from that of each holds
pub pair_small : {P Q : Type 0} (xs ys : List ℕ) → (length xs < 2 ^ 32 → P)
    → (length ys < 2 ^ 32 → Q) → length (xs ++ ys) < 2 ^ 32 → P × Q
pair_small xs ys p q h = (p (length_parts xs ys h).0, q (length_parts xs ys h).1)

-- where a value has fewer than 2^32 octets, so have its contents
pub contents_small : (identifier : ℕ) (contents : List ℕ)
    → length (value_octets identifier contents) < 2 ^ 32 → length contents < 2 ^ 32
contents_small identifier contents h =
    omega (arith, length-append (length_octets (length contents)) contents)

-- the octets of what may be there
abbrev pub optional_octets : {T : Type 0} → (T → List ℕ) → Option T → List ℕ
optional_octets f None = []
optional_octets f (Some x) = f x

-- P holds of what may be there, where it is
abbrev pub IsEach : {T : Type 0} → (T → Type 0) → Option T → Type 0
IsEach P None = Unit {0}
IsEach P (Some x) = P x

-- The law that P holds of what may be there, where its octets by f are fewer than 2^32, and P holds
-- of each value of which that is so (h).
pub optional_small : {T : Type 0} (f : T → List ℕ) (P : T → Type 0)
    → ((x : T) → length (f x) < 2 ^ 32 → P x) → (o : Option T)
    → length (optional_octets f o) < 2 ^ 32 → IsEach P o
optional_small f P h None k = tt
optional_small f P h (Some x) k = h x k

-- The law that P holds of each of the values, where their octets by f are together fewer than 2^32,
-- and P holds of each value of which that is so (h).
pub each_small : {T : Type 0} (f : T → List ℕ) (P : T → Type 0)
    → ((x : T) → length (f x) < 2 ^ 32 → P x) → (xs : List T) → length (flat_map f xs) < 2 ^ 32
    → All P xs
each_small f P h xs k i d l = h _ (omega (arith, length-flat_map-take f xs i d l))
