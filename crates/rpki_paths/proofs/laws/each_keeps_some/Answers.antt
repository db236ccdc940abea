-- One supply more, whatever it answers.
use Rattle.rpki_paths.specs.Supplied.{supply_of, refusal_of}
use Rattle.rpki_paths.proofs.After.{each_keeps_some}
use Rattle.rpki_paths.proofs.laws.each_keeps_some.Goals as goal

pub returns : goal.returns
returns g c =
    each_keeps_some g.C.Certificate.cert
    (supply_of g.T.Locator.key g.S.SuppliedCa.ski g.S.SuppliedCa.key g.S.SuppliedCa.sets)
    (refusal_of g.T.Locator.refuses)
