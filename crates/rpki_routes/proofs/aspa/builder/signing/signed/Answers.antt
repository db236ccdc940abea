use Rattle.std.proofs.Common.{List, ℕ, subst, sym, ◌∙◌}
use Rattle.std.specs.Prelude.{IfOk, IfErr}
use Rattle.rpki_signing.specs.Built.{IsBuilt}
use Rattle.rpki_signing.specs.Built.{IsNotBuilt as IsUnsigned}
use Rattle.rpki_routes.specs.Aspa.Checks.{ct_aspa}
use Rattle.rpki_routes.specs.Aspa.Form.{AspaForm}
use Rattle.rpki_routes.proofs.aspa.builder.signing.signed.Goals as goal

pub finalize_content-requires-clause-said : goal.finalize_content-requires-clause-said
finalize_content-requires-clause-said g c = (
  c.requires.said.0,
  subst (λ (o : List ℕ). AspaForm c.requires.said.0 o c.args.content)
      (sym (c.deref.ensures.value ∙ c.in-Ok.ensures)) c.requires.said.1,
)

pub returns-in-Ok-clause-form : goal.returns-in-Ok-clause-form
returns-in-Ok-clause-form g c = λ limit h.
    c.finalize_content.ensures.form limit (subst (λ (o : List ℕ). AspaForm limit o c.args.content)
    (sym (c.deref.ensures.value ∙ c.in-Ok.ensures)) h)

pub returns-in-Ok-clause-built : goal.returns-in-Ok-clause-built
returns-in-Ok-clause-built g c =
    subst (λ (o : List ℕ). IfOk c.finalize_content.result (λ k. IsBuilt c.args.told
    (g.S.Signer.key_of c.args.signer.now c.args.issuer_key.now) ct_aspa o
    (g.S.Crypto.digest_of c.args.signer.now o) k.object.object.signed))
    (c.deref.ensures.value ∙ c.in-Ok.ensures) c.finalize_content.ensures.built

pub returns-in-Ok-clause-refused : goal.returns-in-Ok-clause-refused
returns-in-Ok-clause-refused g c =
    subst (λ (o : List ℕ). IfErr c.finalize_content.result
    (IsUnsigned (g.S.Signer.may_sign c.args.signer.now)
    (g.S.Signer.is_one_off c.args.signer.now) c.args.told
    (g.S.Signer.key_of c.args.signer.now c.args.issuer_key.now) ct_aspa o
    (g.S.Crypto.digest_of c.args.signer.now o)))
    (c.deref.ensures.value ∙ c.in-Ok.ensures) c.finalize_content.ensures.refused
