-- What is said of the octets of a file whose lines are asked for.
use Rattle.std.specs.Prelude.{◌≡◌, ℕ, ◌⊎◌, List}
use Rattle.rpki_cli.specs.Answer.{Output, out_of_memory, shown}
use Rattle.rpki_cli.specs.Refusal.{IsMalformed}
use Rattle.rpki_cli.specs.declared.causes.Causes.{Causes}

-- no lines are those of the octets
abbrev pub HasNoLines : (List ℕ → List ℕ → Type 0) → List ℕ → Type 0
HasNoLines lines_of octets = (lines : List ℕ) → lines_of octets lines → ⊥

-- these lines are those of the octets, and no others are
pub record HasOnlyLines (lines_of : List ℕ → List ℕ → Type 0) (octets lines : List ℕ) : Type 0 where
  pub these : lines_of octets lines
  pub only : (others : List ℕ) → lines_of octets others → others ≡ lines

-- the lines are shown, unless memory runs out
abbrev pub IsLinesOf : List ℕ → Output → Type 0
IsLinesOf lines s = (s ≡ out_of_memory) ⊎ (s ≡ shown lines)

-- what may be said of octets: that memory ran out, that they have no lines, or their lines
abbrev pub IsSaidOf : Causes → (List ℕ → List ℕ → Type 0) → List ℕ → Output → Type 0
IsSaidOf causes lines_of octets s =
    (s ≡ out_of_memory) ⊎ ((IsMalformed causes s × HasNoLines lines_of octets)
    ⊎ ((lines : List ℕ) × HasOnlyLines lines_of octets lines × (s ≡ shown lines)))

-- the lines of the octets are shown, where there are any and memory suffices
pub record IsShown (causes : Causes) (lines_of : List ℕ → List ℕ → Type 0) (octets : List ℕ)
    (s : Output) : Type 0 where
  pub said : IsSaidOf causes lines_of octets s
