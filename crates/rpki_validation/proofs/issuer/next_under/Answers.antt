use Rattle.rpki_validation.proofs.issuer.next_under.Goals as goal

pub returns-in-None : goal.returns-in-None
returns-in-None c = (c.in-Ok.ensures, c.in-None.ensures, c.is_resource_cert.ensures.sets)
