-- What is kept under all supplies is what the paths earn.
use Rattle.rpki_paths.specs.Supplied.{supply_of, refusal_of}
use Rattle.rpki_paths.proofs.Granting.{yes_is_granted}
use Rattle.rpki_paths.proofs.laws.yes_is_granted.Goals as goal

pub returns : goal.returns
returns g c =
    yes_is_granted g.C.Certificate.cert
    (supply_of g.T.Locator.key g.S.SuppliedCa.ski g.S.SuppliedCa.key g.S.SuppliedCa.sets)
    (refusal_of g.T.Locator.refuses)
