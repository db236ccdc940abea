-- What was found under the locators of trust anchors.
use Rattle.std.specs.Prelude.{ℕ, List}
use Rattle.rpki_relying_party.specs.declared.found.Found.{Found}

-- the name of locators, and what was found under them
pub record FoundUnder : Type 0 where
  pub name : List ℕ
  pub found : Found
