use Rattle.rpki_paths.specs.Final.{attested_sets}
use Rattle.rpki_paths.specs.Supplied.{supply_of, refusal_of}
use Rattle.rpki_examples.proofs.Earned.{earned}
use Rattle.rpki_examples.proofs.granted.earn.Goals as goal

pub returns-in-Ok-finalize : goal.returns-in-Ok-finalize
returns-in-Ok-finalize g c = λ yes cas ees walked. (
    let of =
    supply_of g.T.Locator.key g.U.SuppliedCa.ski g.U.SuppliedCa.key g.U.SuppliedCa.sets in
    earned g.C.Certificate.cert of (refusal_of g.T.Locator.refuses) cas ees c.args.paths.now
    c.supply_all.new.paths c.args.supplies.now (attested_sets c.args.attested.now)
    c.all_are_kept.ensures c.final_is_decided.ensures walked c.in-Ok.ensures
    c.in-Ok-finalize.ensures)
