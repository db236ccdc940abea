-- Small facts of the calls.
use Rattle.std.proofs.Common.{◌≡◌, ℕ, List, [], Some, refl}
use Rattle.rpki_der.specs.declared.mode.Mode.TheVariants.{Der}
use Rattle.rpki_der.specs.Read.Parse.{Parser, all_of, each}

none-at : {X : Type 0} (p : Parser X) → all_of p Der [] ≡ Some []
unfolding all_of each
none-at p = refl

pub none-found : {X : Type 0} (p : Parser X) (o : List ℕ) → o ≡ [] → all_of p Der o ≡ Some []
none-found p o e = rw e (none-at p)
