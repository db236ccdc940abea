-- One supply more is handed in.
use Rattle.std.proofs.Common.{take, ◌++◌, ◌∷◌, [], sym, ap, ◌∙◌, subst}
use Rattle.std.proofs.lemmas.List.{take_more}
use Rattle.rpki_paths.specs.After.{AreAfter}
use Rattle.rpki_paths.specs.Supplied.{supply_of, refusal_of}
use Rattle.rpki_examples.proofs.Earned.{after-more}
use Rattle.rpki_examples.proofs.granted.supply_after.Goals as goal

pub loop-i-preserved : goal.loop-i-preserved
loop-i-preserved g c =
    let cert = g.C.Certificate.cert in
    let of =
    supply_of g.T.Locator.key g.U.SuppliedCa.ski g.U.SuppliedCa.key g.U.SuppliedCa.sets in
    let refuses = refusal_of g.T.Locator.refuses in
    let supplies = c.args.supplies.now in
    let i = c.loop-i.i in
    let x = c.index-supplies-i.result in
    let one_more = take_more supplies i x c.loop-i-test.true
    ∙ ap (λ z. take i supplies ++ z ∷ []) (sym c.index-supplies-i.is) in
    subst (λ l. AreAfter cert of refuses l c.args.paths.now c.supply_each-answer.new.paths)
    (sym one_more)
    (after-more cert of refuses (take i supplies) x c.args.paths.now c.loop-i.paths
    c.supply_each-answer.new.paths c.supply_each-answer.result c.loop-i.invariant
    c.supply_each-answer.ensures)
