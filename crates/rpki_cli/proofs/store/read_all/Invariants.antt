use Rattle.std.proofs.Common.{◌≡◌, ◌++◌, take, length}
use Rattle.rpki_cli.specs.Store.{AreReadTo}
use Rattle.rpki_cli.specs.Words.{texts}
use Rattle.rpki_cli.proofs.store.read_all.Given as goal

-- the files so far are read, each once
abbrev pub invariant-loop-name : goal.invariant-loop-name
invariant-loop-name g l =
    (g.S.Store.told l.store ≡ g.S.Store.told l.fn.store)
    × (g.S.Store.reads l.store ≡ g.S.Store.reads l.fn.store ++ take l.name-index (texts l.names))
    × (length l.files.items ≡ l.name-index)
    × AreReadTo (g.S.Store.told l.fn.store) (texts l.names) l.name-index l.files.items
