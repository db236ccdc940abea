use Rattle.std.proofs.Common.{◌≡◌, ℕ, List, subst}
use Rattle.std.specs.Prelude.{IfOk}
use Rattle.std.proofs.lemmas.Result.{IfErr-weaker, IfOk-weaker, on_ok_weaker}
use Rattle.rpki_signing.specs.Built.{IsBuilt, IsNotBuilt}
use Rattle.rpki_signing.proofs.Contents.{never-content}
use Rattle.rpki_routes.specs.Roa.{Roa}
use Rattle.rpki_routes.specs.Roa.Checks.{route_origin_authz}
use Rattle.rpki_routes.specs.Roa.Signed.{IsBuiltRoa, IsNotBuiltRoa}
use Rattle.rpki_routes.specs.Roa.Written.{roa_octets}
use Rattle.rpki_routes.proofs.Origins.Signed.{roa-built, roa-unmade, roa-unsigned, told-names}
use Rattle.rpki_routes.proofs.roa.builder.RoaBuilder.finalize.Goals as goal

pub returns-in-Err-clause-refused : goal.returns-in-Err-clause-refused
returns-in-Err-clause-refused g c =
    roa-unmade _ (g.S.Signer.may_sign c.args.signer.now)
    (g.S.Signer.is_one_off c.args.signer.now) c.args.self c.args.builder
    (g.S.Signer.key_of c.args.signer.now c.args.issuer_key.now)
    (g.S.Crypto.digest_of c.args.signer.now (roa_octets c.args.self)) c.in-Err.fault
    c.not_built.result c.not_built.ensures c.in-Err.ensures.refused

pub returns-in-Ok-told-clause-content : goal.returns-in-Ok-told-clause-content
returns-in-Ok-told-clause-content g c =
    subst (λ (r : Roa). IfOk c.signed.result (λ o. o.content ≡ r)) c.in-Ok.ensures.built
    c.signed.ensures.content

pub returns-in-Ok-told-clause-built : goal.returns-in-Ok-told-clause-built
returns-in-Ok-told-clause-built g c =
    let key : List ℕ = g.S.Signer.key_of c.args.signer.now c.args.issuer_key.now in
    IfOk-weaker c.signed.result
    (λ o. IsBuilt c.in-Ok-told.told key route_origin_authz (roa_octets c.in-Ok.content)
    (g.S.Crypto.digest_of c.args.signer.now (roa_octets c.in-Ok.content)) o.object.object.signed)
    (λ o. IsBuiltRoa c.args.self c.args.builder key
    (g.S.Crypto.digest_of c.args.signer.now (roa_octets c.args.self)) o.object.object.signed)
    (λ o h. roa-built c.args.self c.in-Ok.content c.args.builder c.in-Ok-told.told key
    (g.S.Crypto.digest_of c.args.signer.now) o.object.object.signed c.in-Ok.ensures.built
    c.in-Ok.ensures.said c.in-Ok.ensures.some c.in-Ok-told.ensures.claims h)
    c.signed.ensures.built

pub returns-in-Ok-told-clause-names : goal.returns-in-Ok-told-clause-names
returns-in-Ok-told-clause-names g c =
    on_ok_weaker c.signed.result
    (told-names c.args.self c.args.builder c.in-Ok-told.told c.in-Ok-told.ensures.claims)
    c.signed.ensures.names

pub returns-in-Ok-told-clause-refused : goal.returns-in-Ok-told-clause-refused
returns-in-Ok-told-clause-refused g c =
    let key : List ℕ = g.S.Signer.key_of c.args.signer.now c.args.issuer_key.now in
    let may : List ℕ → List ℕ → List ℕ → Type 0 = g.S.Signer.may_sign c.args.signer.now in
    let once : List ℕ → Type 0 = g.S.Signer.is_one_off c.args.signer.now in
    IfErr-weaker c.signed.result
    (IsNotBuilt may once c.in-Ok-told.told key route_origin_authz
    (roa_octets c.in-Ok.content)
    (g.S.Crypto.digest_of c.args.signer.now (roa_octets c.in-Ok.content)))
    (IsNotBuiltRoa may once c.args.self c.args.builder key
    (g.S.Crypto.digest_of c.args.signer.now (roa_octets c.args.self)))
    (λ e h. roa-unsigned _ may once c.args.self c.in-Ok.content
    c.args.builder c.in-Ok-told.told key (g.S.Crypto.digest_of c.args.signer.now) e
    c.in-Ok.ensures.built c.in-Ok.ensures.said c.in-Ok.ensures.some c.in-Ok-told.ensures.claims h)
    c.signed.ensures.refused

pub returns-in-Ok-told-clause-unasked : goal.returns-in-Ok-told-clause-unasked
returns-in-Ok-told-clause-unasked g c = λ fault e. absurd
    (never-content _ (g.S.Signer.may_sign c.args.signer.now)
    (g.S.Signer.is_one_off c.args.signer.now) c.in-Ok-told.told
    (g.S.Signer.key_of c.args.signer.now c.args.issuer_key.now) route_origin_authz
    (roa_octets c.in-Ok.content)
    (g.S.Crypto.digest_of c.args.signer.now (roa_octets c.in-Ok.content)) c.signed.result fault
    c.signed.ensures.refused e)
