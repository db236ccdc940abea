use Rattle.std.proofs.Common.{sym, ◌∙◌, arith, rules}
use Rattle.rpki_cli.proofs.Tail.{with-at, without-with}
use Rattle.rpki_cli.proofs.pairs.has_with.Goals as goal

pub returns-then-eq : goal.returns-then-eq
returns-then-eq c = (
  λ h. with-at c.args.tail.now c.loop-word.word-index _ c.loop-word-test.true
      (sym c.eq.ensures ∙ c.if-eq.true),
  λ h. search rules,
)

pub returns : goal.returns
returns c = (
  λ h. search rules,
  λ h. absurd (without-with c.args.tail.now
      (λ k e l. c.loop-word.invariant k e (omega (arith, l, c.loop-word-test.false))) h),
)
