use Rattle.std.proofs.Common.{sym, ◌∙◌, arith}
use Rattle.rpki_cli.proofs.Tail.{chain-found, pairs-found, chain-whole, no-pairs}
use Rattle.rpki_cli.proofs.pairs.cut_at_with.Goals as goal

pub returns-then-eq-clause-chain : goal.returns-then-eq-clause-chain
returns-then-eq-clause-chain c =
    chain-found c.args.tail.now c.loop-at.at _ c.loop-at-test.true
    (sym c.eq.ensures ∙ c.if-eq.true) c.loop-at.invariant

pub returns-then-eq-clause-pairs : goal.returns-then-eq-clause-pairs
returns-then-eq-clause-pairs c =
    pairs-found c.args.tail.now c.loop-at.at _ c.loop-at-test.true
    (sym c.eq.ensures ∙ c.if-eq.true) c.loop-at.invariant

pub returns-clause-chain : goal.returns-clause-chain
returns-clause-chain c = chain-whole c.args.tail.now
    (λ k e l. c.loop-at.invariant k e (omega (arith, l, c.loop-at-test.false)))

pub returns-clause-pairs : goal.returns-clause-pairs
returns-clause-pairs c = no-pairs c.args.tail.now
    (λ k e l. c.loop-at.invariant k e (omega (arith, l, c.loop-at-test.false)))
