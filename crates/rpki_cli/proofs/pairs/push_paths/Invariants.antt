use Rattle.std.proofs.Common.{◌≡◌, ◌++◌, map, take}
use Rattle.rpki_cli.specs.Words.{texts, path_in}
use Rattle.rpki_cli.proofs.pairs.push_paths.Given as goal

-- the paths of the pairs so far are appended
abbrev pub invariant-loop-pair : goal.invariant-loop-pair
invariant-loop-pair l = texts l.names.items
    ≡ texts l.fn.names.items ++ map path_in (texts (take l.pair-index l.pairs))
