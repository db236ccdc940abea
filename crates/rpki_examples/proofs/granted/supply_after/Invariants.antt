-- The supplies so far are handed in.
use Rattle.std.proofs.Common.{take}
use Rattle.rpki_paths.specs.After.{AreAfter}
use Rattle.rpki_paths.specs.Supplied.{supply_of, refusal_of}
use Rattle.rpki_examples.proofs.granted.supply_after.Given as goal

abbrev pub invariant-loop-i : goal.invariant-loop-i
invariant-loop-i g l =
    AreAfter g.C.Certificate.cert
    (supply_of g.T.Locator.key g.U.SuppliedCa.ski g.U.SuppliedCa.key g.U.SuppliedCa.sets)
    (refusal_of g.T.Locator.refuses) (take l.i l.supplies) l.fn.paths l.paths
