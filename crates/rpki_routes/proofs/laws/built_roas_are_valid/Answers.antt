use Rattle.rpki_routes.proofs.Origins.Signed.{roa-good, roa-passes-all}
use Rattle.rpki_routes.proofs.laws.built_roas_are_valid.Goals as goal

pub returns-clause-passes : goal.returns-clause-passes
returns-clause-passes c = λ digest verdict mode handed key o now built fit.
    roa-passes-all digest verdict mode handed key o c.args.issuer.now now built fit
    c.is_resource_cert.ensures

pub returns-clause-good : goal.returns-clause-good
returns-clause-good c = λ digest verdict mode handed key o now built fit v certificate.
    roa-good digest verdict mode handed key o c.args.issuer.now now built fit
    c.is_resource_cert.ensures v certificate
