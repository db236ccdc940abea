-- What a read of at most so many octets answers.
use Rattle.std.specs.Prelude.{◌<◌, ◌≤◌, ℕ, List, length, Result, Ok, Err}
use Rattle.rpki_relying_party.specs.declared.copy.Fetched.{Fetched}
use Rattle.rpki_relying_party.specs.declared.copy.Fetched.TheVariants as fetched
use Rattle.rpki_relying_party.specs.declared.copy.NoFile.{NoFile as Reason}

-- Where a read may find this, it answers octets that were found, if they are so few; why no file
-- was found; or that more octets were.
abbrev pub IsFetched : (Result (List ℕ) Reason → Type 0) → ℕ → Fetched → Type 0
IsFetched finds most (fetched.File octets) = finds (Ok octets) × (length octets ≤ most)
IsFetched finds most (fetched.NoFile why) = finds (Err why)
IsFetched finds most fetched.Larger =
    (octets : List ℕ) × finds (Ok octets) × (most < length octets)
