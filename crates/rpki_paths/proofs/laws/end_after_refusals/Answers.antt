-- What is kept after the supplies tells the numbers of the paths.
use Rattle.rpki_paths.specs.Supplied.{supply_of, refusal_of}
use Rattle.rpki_paths.proofs.After.{end_after_refusals}
use Rattle.rpki_paths.proofs.laws.end_after_refusals.Goals as goal

pub returns : goal.returns
returns g c =
    end_after_refusals g.C.Certificate.cert
    (supply_of g.T.Locator.key g.S.SuppliedCa.ski g.S.SuppliedCa.key g.S.SuppliedCa.sets)
    (refusal_of g.T.Locator.refuses)
