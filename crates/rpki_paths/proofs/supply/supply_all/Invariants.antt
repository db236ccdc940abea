-- The supplies so far are handed in.
use Rattle.std.proofs.Common.{take, Ok}
use Rattle.rpki_paths.specs.Supplied.{AreSuppliedAll, supply_of, refusal_of}
use Rattle.rpki_paths.proofs.supply.supply_all.Given as goal

abbrev pub invariant-loop-i : goal.invariant-loop-i
invariant-loop-i g l =
    AreSuppliedAll g.C.Certificate.cert
    (supply_of g.T.Locator.key g.S.SuppliedCa.ski g.S.SuppliedCa.key g.S.SuppliedCa.sets)
    (refusal_of g.T.Locator.refuses) (take l.i l.supplies) l.fn.paths l.paths (Ok tt)
