-- What is begun is accepted, and a refusal is right.
use Rattle.rpki_multi.specs.Attestation.{whole_of}
use Rattle.rpki_rta.specs.Begun.{cert_of}
use Rattle.rpki_rta.proofs.Refusing.{is-accepted, why-refused}
use Rattle.rpki_rta.proofs.validation.Validation.begin.Goals as goal

pub returns-in-Ok-clause-accepted : goal.returns-in-Ok-clause-accepted
returns-in-Ok-clause-accepted g c =
    is-accepted (cert_of g.C.Crypto.is_signed) (g.C.Crypto.digest_of c.args.crypto.now)
    (g.C.Crypto.is_signed c.args.crypto.now) c.args.now (whole_of c.args.rta.now)
    c.in-Ok.paths.items c.in-Ok.ensures.good c.in-Ok.ensures.accepted

pub returns-clause-refused : goal.returns-clause-refused
returns-clause-refused g c =
    why-refused (g.C.Crypto.digest_of c.args.crypto.now) (g.C.Crypto.is_signed c.args.crypto.now)
    c.args.now (whole_of c.args.rta.now) c.in-Err.fault c.in-Err.ensures.why
