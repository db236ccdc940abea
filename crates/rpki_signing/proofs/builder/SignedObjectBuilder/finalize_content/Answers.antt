use Rattle.std.proofs.Common.{List, ℕ, subst, sym}
use Rattle.rpki_signing.proofs.builder.SignedObjectBuilder.finalize_content.Goals as goal

pub returns-clause-form : goal.returns-clause-form
returns-clause-form g c = λ rule h. c.with_content.ensures.form rule
    (subst (λ (o : List ℕ). g.T.Content.form rule o c.args.content)
    (sym c.in-Ok.ensures.built.content_octets) h)
