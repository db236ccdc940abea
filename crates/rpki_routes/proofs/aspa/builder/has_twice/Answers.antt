use Rattle.std.proofs.Common.{sym, ◌∙◌, arith}
use Rattle.std.proofs.lemmas.Bool.{eqb-true}
use Rattle.rpki_routes.proofs.Ascending.{twins_at}
use Rattle.rpki_routes.proofs.aspa.builder.has_twice.Goals as goal

pub returns-then-eq-clause-twice : goal.returns-then-eq-clause-twice
returns-then-eq-clause-twice c = λ _.
    twins_at c.args.numbers.now c.loop-i.i _ _ (omega arith) (omega arith) c.index-numbers-i.is
    c.index-numbers-i-in-loop-i.is (eqb-true _ _ (sym c.eq.ensures ∙ c.if-eq.true))
