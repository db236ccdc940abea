-- Which handles stand at the heads of paths.
use Rattle.std.specs.Prelude.{List, All}
use Rattle.rpki_paths.specs.declared.walker.Path.{Path}
use Rattle.rpki_paths.specs.Cert.{IsIn}

-- All of these handles are among those.
abbrev pub AreAmong : {C : Type 0} → List C → List C → Type 0
AreAmong hs all = All (λ h. IsIn h all) hs

-- The head of each path is among these handles.
abbrev pub HeadsAmong : {C : Type 0} → List C → List (Path C) → Type 0
HeadsAmong all paths = All (λ p. IsIn p.head all) paths

-- The handle is that of one of the candidates `xs`, as it was admitted, whatever CRL is paired with
-- it: `admits` says which handles a candidate may have, and `same` which handles are of one
-- certificate.
pub record IsFrom {X C : Type 0} (admits : X → C → Type 0) (same : C → C → Type 0) (xs : List X)
    (handle : C) : Type 0 where
  pub candidate : X
  pub admitted : C
  pub is_in : IsIn candidate xs
  pub admits_it : admits candidate admitted
  pub is_same : same admitted handle

-- Each handle is that of one of the candidates.
abbrev pub AreFrom : {X C : Type 0} → (X → C → Type 0) → (C → C → Type 0) → List X → List C → Type 0
AreFrom admits same xs hs = All (λ h. IsFrom admits same xs h) hs

-- The head of each path is the handle of one of the candidates.
abbrev pub HeadsFrom : {X C : Type 0} → (X → C → Type 0) → (C → C → Type 0) → List X →
    List (Path C) → Type 0
HeadsFrom admits same xs paths = All (λ p. IsFrom admits same xs p.head) paths
