-- What is kept after the supplies decides.
use Rattle.rpki_paths.specs.Accepting.{carried_of}
use Rattle.rpki_paths.specs.Final.{attested_sets}
use Rattle.rpki_examples.proofs.granted.decide_after.Goals as goal

pub returns-in-Ok : goal.returns-in-Ok
returns-in-Ok g c = λ yes acc.
    c.yes_after_refusals.ensures
    (carried_of g.X.Candidate.seen g.X.Candidate.of_ca g.S.CarriedSigner.signer
    g.C.CarriedCert.crl c.args.a.now)
    acc.ees acc.crls c.args.paths.now c.supply_after.new.paths c.args.supplies.now
    (attested_sets c.args.a.now.sets) acc.valid acc.paired.matching acc.walked
    c.in_ok-supply_after.ensures c.in-Ok.ensures
