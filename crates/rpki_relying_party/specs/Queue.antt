-- Places that wait.
use Rattle.std.specs.Prelude.{◌≡◌, ◌<◌, ℕ, List, Option, None, map, filter_map, length}
use Rattle.std.specs.List.{slice_index_or}
use Rattle.std.specs.Option.{option_map}
use Rattle.rpki_relying_party.specs.declared.queue.Branch.{Branch}

-- the place that waits on a branch, if one does
abbrev pub place_on : {P : Type 0} → Branch P → Option P
place_on branch = option_map (λ b. b.value) branch.place

-- those that are there
abbrev pub somes : {P : Type 0} → List (Option P) → List P
somes options = filter_map (λ o. o) options

-- the places that wait
abbrev pub waiting_in : {P : Type 0} → List (Branch P) → List P
waiting_in branches = somes (map place_on branches)

-- No place waits on the branch with this number, and none was taken.
pub record TakesNone {P : Type 0} (at : ℕ) (old new : List (Branch P)) : Type 0 where
  pub same : map place_on new ≡ map place_on old
  pub none : at < length old → slice_index_or (map place_on old) at None ≡ None
