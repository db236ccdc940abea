use Rattle.rpki_basics.specs.declared.limits.ProviderLimit.TheVariants.{Narrow}
use Rattle.rpki_routes.proofs.Attestations.Written.{attestation-wide, attestation-narrow}
use Rattle.rpki_routes.proofs.laws.limits_are_nested.Goals as goal

pub returns-clause-wider : goal.returns-clause-wider
returns-clause-wider c = λ octets a h. (h.0, attestation-wide Narrow a h.1)

pub returns-clause-narrower : goal.returns-clause-narrower
returns-clause-narrower c = λ octets a h few. (h.0, attestation-narrow a h.1 few)
