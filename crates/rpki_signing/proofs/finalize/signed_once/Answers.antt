use Rattle.rpki_attributes.specs.Attrs.Made.{attributes_of}
use Rattle.rpki_signing.proofs.finalize.signed_once.Goals as goal

pub returns-in-Err-one_off-clause-refused : goal.returns-in-Err-one_off-clause-refused
returns-in-Err-one_off-clause-refused g c =
    c.in-Err-one_off.ensures.refused (attributes_of c.args.typed.now.content_type.now
    (g.S.Crypto.digest_of c.args.signer.now c.args.typed.now.content.now) c.args.time)
