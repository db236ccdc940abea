-- One supply after the other.
use Rattle.rpki_paths.specs.Supplied.{supply_of, refusal_of}
use Rattle.rpki_paths.proofs.After.{all_keep_some}
use Rattle.rpki_paths.proofs.laws.all_keep_some.Goals as goal

pub returns : goal.returns
returns g c =
    all_keep_some g.C.Certificate.cert
    (supply_of g.T.Locator.key g.S.SuppliedCa.ski g.S.SuppliedCa.key g.S.SuppliedCa.sets)
    (refusal_of g.T.Locator.refuses)
