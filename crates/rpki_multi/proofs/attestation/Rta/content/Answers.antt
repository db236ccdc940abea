use Rattle.std.proofs.Common.{subst}
use Rattle.rpki_multi.specs.Attestation.{IsKeptRta}
use Rattle.rpki_multi.proofs.attestation.Rta.content.Goals as goal

pub returns-clause-said : goal.returns-clause-said
returns-clause-said c = subst IsKeptRta c.self.view_is c.self.invariant
