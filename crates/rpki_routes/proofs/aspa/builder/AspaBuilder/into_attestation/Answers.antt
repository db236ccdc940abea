use Rattle.rpki_routes.proofs.Attestations.Written.{aspa-written}
use Rattle.rpki_routes.proofs.aspa.builder.AspaBuilder.into_attestation.Goals as goal

pub returns-clause-written : goal.returns-clause-written
returns-clause-written c = aspa-written c.args.limit c.args.self c.is_attestation.ensures
