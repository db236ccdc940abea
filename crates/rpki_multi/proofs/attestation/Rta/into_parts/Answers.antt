use Rattle.std.proofs.Common.{subst}
use Rattle.rpki_multi.specs.Attestation.{IsKeptRta}
use Rattle.rpki_multi.proofs.attestation.Rta.into_parts.Goals as goal

pub returns-clause-kept : goal.returns-clause-kept
returns-clause-kept c = subst IsKeptRta c.self.view_is c.self.invariant
