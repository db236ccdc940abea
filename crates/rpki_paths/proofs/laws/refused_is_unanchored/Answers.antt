-- The supply that declines comes after those that did not.
use Rattle.rpki_paths.specs.Supplied.{supply_of, refusal_of}
use Rattle.rpki_paths.proofs.Keeps.{refused_is_unanchored}
use Rattle.rpki_paths.proofs.laws.refused_is_unanchored.Goals as goal

pub returns : goal.returns
returns g c =
    refused_is_unanchored g.C.Certificate.cert
    (supply_of g.T.Locator.key g.S.SuppliedCa.ski g.S.SuppliedCa.key g.S.SuppliedCa.sets)
    (refusal_of g.T.Locator.refuses)
