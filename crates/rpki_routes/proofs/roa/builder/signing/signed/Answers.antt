use Rattle.std.proofs.Common.{List, ℕ, subst, sym, ◌∙◌}
use Rattle.std.specs.Prelude.{IfOk, IfErr}
use Rattle.rpki_signing.specs.Built.{IsBuilt}
use Rattle.rpki_signing.specs.Built.{IsNotBuilt as IsUnsigned}
use Rattle.rpki_routes.specs.Roa.Checks.{route_origin_authz}
use Rattle.rpki_routes.specs.Roa.Form.{RoaForm}
use Rattle.rpki_routes.proofs.roa.builder.signing.signed.Goals as goal

pub finalize_content-requires-clause-said : goal.finalize_content-requires-clause-said
finalize_content-requires-clause-said g c = (
  tt,
  subst (λ (o : List ℕ). RoaForm o c.args.content)
      (sym (c.deref.ensures.value ∙ c.in-Ok.ensures)) c.requires.form,
)

pub returns-in-Ok-clause-form : goal.returns-in-Ok-clause-form
returns-in-Ok-clause-form g c =
    c.finalize_content.ensures.form tt (subst (λ (o : List ℕ). RoaForm o c.args.content)
    (sym (c.deref.ensures.value ∙ c.in-Ok.ensures)) c.requires.form)

pub returns-in-Ok-clause-built : goal.returns-in-Ok-clause-built
returns-in-Ok-clause-built g c =
    subst (λ (o : List ℕ). IfOk c.finalize_content.result (λ k. IsBuilt c.args.told
    (g.S.Signer.key_of c.args.signer.now c.args.issuer_key.now) route_origin_authz o
    (g.S.Crypto.digest_of c.args.signer.now o) k.object.object.signed))
    (c.deref.ensures.value ∙ c.in-Ok.ensures) c.finalize_content.ensures.built

pub returns-in-Ok-clause-refused : goal.returns-in-Ok-clause-refused
returns-in-Ok-clause-refused g c =
    subst (λ (o : List ℕ). IfErr c.finalize_content.result
    (IsUnsigned (g.S.Signer.may_sign c.args.signer.now)
    (g.S.Signer.is_one_off c.args.signer.now) c.args.told
    (g.S.Signer.key_of c.args.signer.now c.args.issuer_key.now) route_origin_authz o
    (g.S.Crypto.digest_of c.args.signer.now o)))
    (c.deref.ensures.value ∙ c.in-Ok.ensures) c.finalize_content.ensures.refused
