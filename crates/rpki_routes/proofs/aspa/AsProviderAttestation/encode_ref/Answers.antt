use Rattle.std.proofs.Common.{subst}
use Rattle.rpki_basics.specs.declared.limits.ProviderLimit.TheVariants.{Wide}
use Rattle.rpki_routes.specs.Aspa.{IsAttestation}
use Rattle.rpki_routes.proofs.Attestations.Written.{short-octets, aspa-written, aspa-only}
use Rattle.rpki_routes.proofs.aspa.AsProviderAttestation.encode_ref.Goals as goal

pub returns-clause-short : goal.returns-clause-short
returns-clause-short c =
    short-octets Wide c.args.self.now (subst (IsAttestation Wide) c.self.view_is c.self.invariant)

pub returns-clause-written : goal.returns-clause-written
returns-clause-written c =
    aspa-written Wide c.args.self.now (subst (IsAttestation Wide) c.self.view_is c.self.invariant)

pub returns-clause-only : goal.returns-clause-only
returns-clause-only c = λ octets bytes form. aspa-only Wide octets c.args.self.now bytes form
