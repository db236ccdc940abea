-- What a read of a copy of the repositories may find, where no larger file is read.
use Rattle.std.specs.Prelude.{◌<◌, ◌≤◌, ◌⊎◌, ℕ, List, Result, Ok, Err, length}
use Rattle.rpki_relying_party.specs.declared.copy.NoFile.{NoFile}
use Rattle.rpki_relying_party.specs.declared.copy.NoFile.TheVariants.{TooLarge}

-- what a read below a folder, under a name, may find: octets, or why there are none
abbrev pub Finds : Type 1
Finds = List ℕ → List ℕ → Result (List ℕ) NoFile → Type 0

-- What may be found is found, if it has no more octets; and it may be that a file is too large,
-- where one may be found that has more.
abbrev pub FindsWithin : (Result (List ℕ) NoFile → Type 0) → ℕ → Result (List ℕ) NoFile → Type 0
FindsWithin finds max (Ok octets) = finds (Ok octets) × (length octets ≤ max)
FindsWithin finds max (Err TooLarge) = finds (Err TooLarge)
    ⊎ ((octets : List ℕ) × finds (Ok octets) × (max < length octets))
FindsWithin finds max (Err why) = finds (Err why)
