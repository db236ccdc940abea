use Rattle.std.proofs.Common.{◌≡◌, List, ℕ, ap, sym, subst, ◌∙◌}
use Rattle.rpki_der.specs.declared.mode.Mode.TheVariants.{Der}
use Rattle.rpki_der.specs.Form.Made.{Begins}
use Rattle.rpki_tagged.specs.Attestation.{Attestation, AttestationForm}
use Rattle.rpki_multi.specs.Multi.{KeptMulti}
use Rattle.rpki_multi.proofs.builder.RtaBuilder.from_rta.Goals as goal

pub invariant_of-result : goal.invariant_of-result
invariant_of-result c =
    let parts = c.into_parts-signed.ensures in
    let same : c.octets.inside.content ≡ c.args.rta.signed.content =
    ap (λ (k : KeptMulti). k.content) (c.octets.view_is ∙ c.into_parts.ensures ∙ parts.signed) in
    subst (λ (a : Attestation). Begins (AttestationForm Der) c.octets.inside.content a)
    (sym parts.content)
    (subst (λ (o : List ℕ). Begins (AttestationForm Der) o c.args.rta.content) (sym same)
    parts.kept.1)
