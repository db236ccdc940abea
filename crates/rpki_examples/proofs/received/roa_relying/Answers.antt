use Rattle.rpki_der.specs.declared.mode.Mode.TheVariants.{Der}
use Rattle.rpki_sigobj.proofs.Valid.{published-valid}
use Rattle.rpki_sigobj.specs.Signed.{cert_in}
use Rattle.rpki_examples.proofs.received.roa_relying.Goals as goal

pub roa-requires : goal.roa-requires
roa-requires g c = λ o rest front all.
    let valid = (published-valid (g.C.Crypto.digest_of c.args.crypto.now)
    (g.C.Crypto.is_signed c.args.crypto.now) o.object.signed c.args.issuer.now c.args.now).0 all in
    c.requires (cert_in Der o) valid.2
