use Rattle.rpki_routes.proofs.Attestations.Signed.{aspa-good, aspa-passes-all}
use Rattle.rpki_routes.proofs.laws.built_aspas_are_valid.Goals as goal

pub returns-clause-passes : goal.returns-clause-passes
returns-clause-passes c = λ digest verdict mode limit handed key o now built fit.
    aspa-passes-all digest verdict mode limit handed key o c.args.issuer.now now built fit
    c.is_resource_cert.ensures

pub returns-clause-good : goal.returns-clause-good
returns-clause-good c = λ digest verdict mode limit handed key o now built fit v certificate.
    aspa-good digest verdict mode limit handed key o c.args.issuer.now now built fit
    c.is_resource_cert.ensures v certificate
