use Rattle.std.proofs.Common.{List, ℕ, sym, subst, ◌∙◌}
use Rattle.rpki_attributes.specs.Attrs.{SignedAttributes}
use Rattle.rpki_attributes.specs.Attrs.Made.{AreMade, attributes_of}
use Rattle.rpki_multi.specs.Signer.{id_rta}
use Rattle.rpki_multi.proofs.Builds.{made-attested}
use Rattle.rpki_multi.proofs.builder.signing.signer_of.Goals as goal

pub of-requires : goal.of-requires
of-requires g c =
    let digest : List ℕ = g.S.Crypto.digest_of c.args.signer.now c.args.content.now in
    let info = c.in-Ok-signed.ensures in
    made-attested digest c.args.time c.in-Ok-signed.said info.len
    (subst (λ (x : SignedAttributes). AreMade id_rta digest c.args.time x) (sym info.attributes)
    (subst (λ (type : List ℕ). AreMade type digest c.args.time c.in-Ok.attributes.attributes)
    c.content_type.ensures c.in-Ok.ensures.made))
    (info.mode ∙ c.in-Ok.ensures.der)

pub returns-in-Err-signed-clause-refused : goal.returns-in-Err-signed-clause-refused
returns-in-Err-signed-clause-refused g c =
    c.in-Err-signed.ensures.refused (attributes_of id_rta
    (g.S.Crypto.digest_of c.args.signer.now c.args.content.now) c.args.time)
