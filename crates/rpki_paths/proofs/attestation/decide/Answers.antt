-- What is kept of the paths under the supplies decides what is granted.
use Rattle.rpki_paths.specs.Accepting.{carried_of}
use Rattle.rpki_paths.specs.Final.{attested_sets}
use Rattle.rpki_paths.specs.Supplied.{supply_of, refusal_of}
use Rattle.rpki_paths.proofs.Granting.{yes_is_granted, unsupplied_is_refused, undecided_is_refused}
use Rattle.rpki_paths.proofs.attestation.decide.Goals as goal

pub returns-in-Err-clause-no : goal.returns-in-Err-clause-no
returns-in-Err-clause-no g c = λ other acc dist. (
    let cert = g.C.Certificate.cert in
    let of =
    supply_of g.T.Locator.key g.U.SuppliedCa.ski g.U.SuppliedCa.key g.U.SuppliedCa.sets in
    let refuses = refusal_of g.T.Locator.refuses in
    let a = carried_of g.X.Candidate.seen g.X.Candidate.of_ca g.S.CarriedSigner.signer
    g.C.CarriedCert.crl c.args.a.now in
    let supplies = c.args.supplies.now in
    let sets = attested_sets c.args.a.now.sets in
    unsupplied_is_refused cert of refuses a acc.ees acc.crls c.args.paths.now
    c.supply_all.new.paths supplies sets c.in-Err.fault dist acc.paired.matching acc.walked other
    c.in-Err.ensures)

pub returns-in-Ok-finalize-clause-yes : goal.returns-in-Ok-finalize-clause-yes
returns-in-Ok-finalize-clause-yes g c = λ acc. (
    let cert = g.C.Certificate.cert in
    let of =
    supply_of g.T.Locator.key g.U.SuppliedCa.ski g.U.SuppliedCa.key g.U.SuppliedCa.sets in
    let refuses = refusal_of g.T.Locator.refuses in
    let a = carried_of g.X.Candidate.seen g.X.Candidate.of_ca g.S.CarriedSigner.signer
    g.C.CarriedCert.crl c.args.a.now in
    let supplies = c.args.supplies.now in
    let sets = attested_sets c.args.a.now.sets in
    yes_is_granted cert of refuses a acc.ees acc.crls c.args.paths.now c.supply_all.new.paths
    supplies sets acc.valid acc.paired.matching acc.walked c.in-Ok.ensures c.in-Ok-finalize.ensures)

pub returns-in-Err-finalize-clause-no : goal.returns-in-Err-finalize-clause-no
returns-in-Err-finalize-clause-no g c = λ other acc dist. (
    let cert = g.C.Certificate.cert in
    let of =
    supply_of g.T.Locator.key g.U.SuppliedCa.ski g.U.SuppliedCa.key g.U.SuppliedCa.sets in
    let refuses = refusal_of g.T.Locator.refuses in
    let a = carried_of g.X.Candidate.seen g.X.Candidate.of_ca g.S.CarriedSigner.signer
    g.C.CarriedCert.crl c.args.a.now in
    let supplies = c.args.supplies.now in
    let sets = attested_sets c.args.a.now.sets in
    undecided_is_refused cert of refuses a acc.ees acc.crls c.args.paths.now
    c.supply_all.new.paths supplies sets c.in-Err-finalize.fault dist acc.paired.matching
    acc.walked other c.in-Ok.ensures c.in-Err-finalize.ensures)

pub returns-in-Err-clause-fault : goal.returns-in-Err-clause-fault
returns-in-Err-clause-fault g c = λ acc.
    (c.args.paths.now, c.supply_all.new.paths, acc, c.in-Err.ensures)

pub returns-in-Err-finalize-clause-fault : goal.returns-in-Err-finalize-clause-fault
returns-in-Err-finalize-clause-fault g c = λ acc. (
  c.args.paths.now,
  c.supply_all.new.paths,
  acc,
  c.in-Ok.ensures,
  c.in-Err-finalize.ensures,
)
