-- What was written, where that is known.
use Rattle.std.proofs.Common.{◌≡◌, ℕ, List, ◌++◌, Option, None, Some}
use Rattle.std.specs.Io.KnownBytes.{Appends, Keeps}

-- known octets grow
pub some-more : (old new : Option (List ℕ)) (xs octets : List ℕ) → old ≡ Some xs
    → Appends old new octets → new ≡ Some (xs ++ octets)
some-more None new xs octets p h = cc
some-more (Some x) None xs octets p h = absurd h
some-more (Some x) (Some y) xs octets p h = cc

-- known octets stay
pub some-kept : (old : Option (List ℕ)) (xs ys : List ℕ) → old ≡ Some xs → Keeps old (Some ys)
    → ys ≡ xs
some-kept None xs ys p h = cc
some-kept (Some x) xs ys p h = cc
