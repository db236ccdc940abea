use Rattle.std.proofs.Common.{◌≡◌, ◌==◌, ◌<◌, length, get_or, ℕ, List, Bor, false}
use Rattle.rpki_cli.specs.Words.{path_in}
use Rattle.rpki_cli.proofs.pairs.are_paths_named.Given as goal

-- the pairs so far have a path
abbrev pub invariant-loop-pair : goal.invariant-loop-pair
invariant-loop-pair l = (k : ℕ) (d : Bor (List ℕ)) → k < l.pair-index
    → (length (path_in (get_or l.pairs k d).now) == 0) ≡ false
