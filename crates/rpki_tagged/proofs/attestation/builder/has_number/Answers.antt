use Rattle.rpki_tagged.proofs.Attestations.Built.{number-there, nothing-there}
use Rattle.rpki_tagged.proofs.attestation.builder.has_number.Goals as goal

pub returns-clause-some : goal.returns-clause-some
returns-clause-some g c =
    number-there g.T.Number.number 0 c.args.set.now c.is_empty_set.result c.is_empty_set.ensures
    c.as_slice.ensures.canonical

pub returns-clause-none : goal.returns-clause-none
returns-clause-none g c = nothing-there c.args.set.now c.is_empty_set.result c.is_empty_set.ensures
