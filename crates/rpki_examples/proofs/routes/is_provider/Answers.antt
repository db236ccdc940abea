use Rattle.std.proofs.Common.{ℕ, ◌≡◌, ◌∙◌, false, true, eq-eqb}
use Rattle.rpki_examples.proofs.Search.{left-more}
use Rattle.rpki_examples.proofs.routes.is_provider.Goals as goal

pub loop-next-preserved : goal.loop-next-preserved
loop-next-preserved c =
    left-more (λ (n : ℕ). n ≡ c.args.provider) c.args.content.now.providers
    c.loop-next.left c.next.new.self c.in-Some.next c.loop-next.invariant c.in-Some.ensures.steps
    (λ e. let never : false ≡ true = c.if-eq.ensures ∙ eq-eqb c.in-Some.next c.args.provider e in
    cc)
