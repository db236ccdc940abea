-- What walks earn under supplies.
use Rattle.std.proofs.Common.{List, [], ◌∷◌, ◌++◌, map, Bool, Result, Ok, refl, subst}
use Rattle.rpki_faults.specs.declared.family.Family.{Family}
use Rattle.rpki_paths.specs.declared.supply.SupplyFault.{SupplyFault}
use Rattle.rpki_paths.specs.declared.walker.Path.{Path}
use Rattle.rpki_paths.specs.After.{AreAfter}
use Rattle.rpki_paths.specs.Anchor.{Supply}
use Rattle.rpki_paths.specs.Cert.{Cert, Numbers}
use Rattle.rpki_paths.specs.Final.{Decides}
use Rattle.rpki_paths.specs.Grant.{ArePaths, AreUsed, IsEarned}
use Rattle.rpki_paths.specs.Kept.{AreWalked}
use Rattle.rpki_paths.specs.Laws.{AllAreKept, FinalIsDecided}
use Rattle.rpki_paths.specs.Supplied.{AnswersEach, AreSuppliedAll}

-- what is walked, supplied and decided is earned
pub earned : {X C F : Type 0} (cert : C → Cert) (of : X → Supply) (refuses : X → C → F → Type 0)
    (cas ees : List Cert) (walked kept : List (Path C)) (xs : List X)
    (attested : Family → Numbers) → AllAreKept cert of refuses → FinalIsDecided cert
    → AreWalked cert cas ees walked → AreSuppliedAll cert of refuses xs walked kept (Ok tt)
    → Decides kept attested (Ok tt)
    → (paths : List (List Cert)) × ArePaths cas ees paths × AreUsed cas paths
    × IsEarned paths (map of xs) attested
earned cert of refuses cas ees walked kept xs attested keeps decides w supplied decided =
    let k = keeps xs [] walked kept w.paths supplied w.are_kept in
    (w.paths, w.stand, w.used, (decides (map of xs) kept w.paths attested k).1 decided)

-- one supply more is handed in, whatever it answers
pub after-more : {X C F : Type 0} (cert : C → Cert) (of : X → Supply)
    (refuses : X → C → F → Type 0) (xs : List X) (x : X) (old mid new : List (Path C))
    (answer : Result Bool (SupplyFault F)) → AreAfter cert of refuses xs old mid
    → AnswersEach cert (refuses x) (of x) mid new answer
    → AreAfter cert of refuses (xs ++ x ∷ []) old new
after-more cert of refuses [] x old mid new answer h a =
    (new, answer, subst (λ l. AnswersEach cert (refuses x) (of x) l new answer) h a, refl)
after-more cert of refuses (y ∷ xs) x old mid new answer h a =
    (h.0, h.1, h.2, after-more cert of refuses xs x h.0 mid new answer h.3 a)
