-- Rows that are printed once each.
use Rattle.std.specs.Prelude.{◌≡◌, ◌↔◌, ℕ, List, [], ◌∷◌, ◌++◌, Bool, Contains, map}
use Rattle.std.specs.List.{IsDistinct, flat_map}

-- the texts of the items, with the separator between each two
abbrev pub separated : {X : Type 0} → List ℕ → (X → List ℕ) → List X → List ℕ
separated separator text [] = []
separated separator text (x ∷ xs) = text x ++ flat_map (λ y. separator ++ text y) xs

-- Whatever is printed, the line of each of its items stands there once, in their order, with the
-- separator between each two. What stands before and after is the same for all.
pub record PrintsEach {R X : Type 0} (items : R → List X) (separator : List ℕ)
    (line : X → List ℕ) (print : R → List ℕ) : Type 0 where
  pub begin : List ℕ
  pub end : List ℕ
  pub is : (r : R) → print r ≡ begin ++ (separated separator line (items r) ++ end)

-- The rows are those of which P holds, each once: no two have one key.
pub record AreEachOnce {R K : Type 0} (P : R → Type 0) (same : K → K → Bool) (key : R → K)
    (rows : List R) : Type 0 where
  pub each : (r : R) → Contains rows r ↔ P r
  pub once : IsDistinct same (map key rows)
