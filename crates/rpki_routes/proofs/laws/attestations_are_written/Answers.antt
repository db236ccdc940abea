use Rattle.std.proofs.Common.{refl}
use Rattle.rpki_routes.specs.Aspa.Written.{aspa_octets}
use Rattle.rpki_routes.proofs.Attestations.Written.{aspa-written, aspa-only}
use Rattle.rpki_routes.proofs.laws.attestations_are_written.Goals as goal

pub returns-clause-written : goal.returns-clause-written
returns-clause-written c = aspa-written

pub returns-clause-only : goal.returns-clause-only
returns-clause-only c = aspa-only

pub returns-clause-read : goal.returns-clause-read
returns-clause-read c = λ limit a rest attested.
    (aspa_octets a, refl, aspa-written limit a attested)
