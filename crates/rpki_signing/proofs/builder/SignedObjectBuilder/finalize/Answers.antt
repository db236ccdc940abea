use Rattle.std.proofs.Common.{List, ℕ, sym, subst, ◌∙◌}
use Rattle.std.specs.Prelude.{IfErr}
use Rattle.std.proofs.lemmas.Result.{IfErr-weaker}
use Rattle.rpki_basics.specs.Moment.{Moment}
use Rattle.rpki_attributes.specs.Attrs.Made.{AreMade, attributes_of}
use Rattle.rpki_attributes.specs.Signing.{AreNotSigned}
use Rattle.rpki_signing.specs.Built.{IsNotBuilt}
use Rattle.rpki_signing.proofs.Answered.{unsigned-unbuilt, unbuilt-as}
use Rattle.rpki_signing.proofs.builder.SignedObjectBuilder.finalize.Goals as goal

pub issued-object-requires-clause-made : goal.issued-object-requires-clause-made
issued-object-requires-clause-made g c =
    let type : List ℕ = c.args.content_type.now in
    let content : List ℕ = c.args.content.now in
    let x = c.in-Ok-signed_once.once.attributes.attributes in
    subst (λ (digest : List ℕ). AreMade type digest c.args.self.signing_time x)
    (sym (c.in-Ok-signed_once.ensures.digests content))
    (subst (λ (time : Moment). AreMade type
    (g.S.Crypto.digest_of c.get_key_info.new.self content) time x) c.signing_time.ensures
    c.in-Ok-signed_once.ensures.made)

pub returns-in-Err-signed_once-clause-refused : goal.returns-in-Err-signed_once-clause-refused
returns-in-Err-signed_once-clause-refused g c =
    let type : List ℕ = c.args.content_type.now in
    let content : List ℕ = c.args.content.now in
    let digest : List ℕ = g.S.Crypto.digest_of c.args.signer.now content in
    let issuer : List ℕ = g.S.Signer.key_of c.args.signer.now c.args.issuer_key.now in
    let e = c.in-Err-signed_once.fault in
    unsigned-unbuilt (g.S.Signer.may_sign c.args.signer.now)
    (g.S.Signer.is_one_off c.args.signer.now) c.args.self issuer type content digest e
    (subst (λ (time : Moment). AreNotSigned (attributes_of type digest time) e)
    c.signing_time.ensures
    (subst (λ (d : List ℕ). AreNotSigned (attributes_of type d c.signing_time.result) e)
    (c.in-Ok.ensures.digests content) c.in-Err-signed_once.ensures.refused))

pub returns-in-Ok-signed_once-clause-refused : goal.returns-in-Ok-signed_once-clause-refused
returns-in-Ok-signed_once-clause-refused g c =
    let type : List ℕ = c.args.content_type.now in
    let content : List ℕ = c.args.content.now in
    let digest : List ℕ = g.S.Crypto.digest_of c.args.signer.now content in
    let key = c.args.issuer_key.now in
    let issuer : List ℕ = g.S.Signer.key_of c.args.signer.now key in
    let r = c.issued-object.result in
    let may : List ℕ → List ℕ → List ℕ → Type 0 = g.S.Signer.may_sign c.signed_once.new.signer in
    let may' : List ℕ → List ℕ → List ℕ → Type 0 = g.S.Signer.may_sign c.args.signer.now in
    let once : List ℕ → Type 0 = g.S.Signer.is_one_off c.signed_once.new.signer in
    let once' : List ℕ → Type 0 = g.S.Signer.is_one_off c.args.signer.now in
    IfErr-weaker r (IsNotBuilt may once c.args.self issuer type content digest)
    (IsNotBuilt may' once' c.args.self issuer type content digest)
    (λ e h. unbuilt-as may once c.args.self issuer type content digest may' once'
    (λ k m s b. (c.in-Ok.ensures.signs k m s).0 ((c.in-Ok-signed_once.ensures.signs k m s).0 b))
    (λ k b. (c.in-Ok.ensures.once k).0 ((c.in-Ok-signed_once.ensures.once k).0 b)) e h)
    (subst (λ (i : List ℕ). IfErr r (IsNotBuilt may once c.args.self i type content digest))
    c.in-Ok.ensures.key
    (subst (λ (d : List ℕ).
    IfErr r (IsNotBuilt may once c.args.self c.in-Ok.issuer type content d))
    (c.in-Ok-signed_once.ensures.digests content ∙ c.in-Ok.ensures.digests content)
    c.issued-object.ensures.refused))

pub issued-object-requires-clause-issuer : goal.issued-object-requires-clause-issuer
issued-object-requires-clause-issuer g c =
    let key = c.args.issuer_key.now in
    c.in-Ok.ensures.key
    ∙ sym (c.in-Ok-signed_once.ensures.keys key ∙ c.in-Ok.ensures.keys key)

pub issued-object-requires-clause-signed : goal.issued-object-requires-clause-signed
issued-object-requires-clause-signed g c =
    (c.in-Ok-signed_once.ensures.signs _ _ _).1 c.in-Ok-signed_once.ensures.signed

pub issued-object-requires-clause-one_off : goal.issued-object-requires-clause-one_off
issued-object-requires-clause-one_off g c =
    (c.in-Ok-signed_once.ensures.once _).1 c.in-Ok-signed_once.ensures.one_off
