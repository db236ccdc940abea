-- The paths that are found decide what is earned.
use Rattle.rpki_paths.specs.Supplied.{supply_of, refusal_of}
use Rattle.rpki_paths.proofs.Granting.{undecided_is_refused}
use Rattle.rpki_paths.proofs.laws.undecided_is_refused.Goals as goal

pub returns : goal.returns
returns g c =
    undecided_is_refused g.C.Certificate.cert
    (supply_of g.T.Locator.key g.S.SuppliedCa.ski g.S.SuppliedCa.key g.S.SuppliedCa.sets)
    (refusal_of g.T.Locator.refuses)
