-- None of the others is meant for its head, and this one does not take it.
use Rattle.rpki_paths.specs.Supplied.{supply_of, refusal_of}
use Rattle.rpki_paths.proofs.Keeps.{declined_is_unanchored}
use Rattle.rpki_paths.proofs.laws.declined_is_unanchored.Goals as goal

pub returns : goal.returns
returns g c =
    declined_is_unanchored g.C.Certificate.cert
    (supply_of g.T.Locator.key g.S.SuppliedCa.ski g.S.SuppliedCa.key g.S.SuppliedCa.sets)
    (refusal_of g.T.Locator.refuses)
