-- The paths so far are supplied, and the flag tells whether all of them are anchored.
use Rattle.std.proofs.Common.{IsTrue}
use Rattle.std.specs.Prelude.{◌↔◌}
use Rattle.rpki_paths.specs.Supplied.{AreSupplied, AreAnchoredTo, supply_of}
use Rattle.rpki_paths.proofs.supply.supply_each.Given as goal

abbrev pub invariant-loop-i : goal.invariant-loop-i
invariant-loop-i g l =
    AreSupplied g.C.Certificate.cert
    (supply_of g.T.Locator.key g.S.SuppliedCa.ski g.S.SuppliedCa.key g.S.SuppliedCa.sets l.supplied)
    l.fn.paths l.paths l.i
    × (IsTrue l.done ↔ AreAnchoredTo l.paths l.i)
