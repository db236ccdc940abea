-- A copy that finds one thing for each URI.
use Rattle.std.specs.Prelude.{◌≡◌, ℕ, List, Result}
use Rattle.rpki_relying_party.specs.Setting.{Setting}
use Rattle.rpki_relying_party.specs.declared.copy.NoFile.{NoFile}

-- The copy finds one thing for each URI. A folder that may change finds more than one.
abbrev pub FindsOne : Setting → Type 0
FindsOne s =
    (uri : List ℕ) (a b : Result (List ℕ) NoFile) → s.finds uri a → s.finds uri b → a ≡ b
