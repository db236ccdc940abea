-- One supply more is handed in, or declines a path.
use Rattle.std.proofs.Common.{length, take, ◌++◌, ◌∷◌, [], Ok, Err, refl, sym, ap, ◌∙◌, subst}
use Rattle.std.proofs.lemmas.Option.{slice_get_read}
use Rattle.std.proofs.lemmas.List.{take_more}
use Rattle.rpki_paths.specs.Supplied.{AreSuppliedAll, supply_of, refusal_of}
use Rattle.rpki_paths.proofs.Keeps.{all-more, all-stops}
use Rattle.rpki_paths.proofs.PairingOff.{split-at}
use Rattle.rpki_paths.proofs.supply.supply_all.Goals as goal

pub returns-in-Err : goal.returns-in-Err
returns-in-Err g c =
    let cert = g.C.Certificate.cert in
    let of =
    supply_of g.T.Locator.key g.S.SuppliedCa.ski g.S.SuppliedCa.key g.S.SuppliedCa.sets in
    let refuses = refusal_of g.T.Locator.refuses in
    let supplies = c.args.supplies.now in
    let i = c.loop-i.i in
    let x = c.index-supplies-i.result in
    let at_i = slice_get_read supplies (length supplies) i x refl c.loop-i-test.true
    c.index-supplies-i.is in
    let parts = split-at supplies i x at_i in
    subst (λ l. AreSuppliedAll cert of refuses l c.args.paths.now c.supply_each.new.paths
    (Err c.in-Err.fault)) parts.1
    (all-stops cert of refuses (take i supplies) x parts.0 c.args.paths.now c.loop-i.paths
    c.supply_each.new.paths c.in-Err.fault c.loop-i.invariant c.in-Err.ensures)

pub loop-i-preserved : goal.loop-i-preserved
loop-i-preserved g c =
    let cert = g.C.Certificate.cert in
    let of =
    supply_of g.T.Locator.key g.S.SuppliedCa.ski g.S.SuppliedCa.key g.S.SuppliedCa.sets in
    let refuses = refusal_of g.T.Locator.refuses in
    let supplies = c.args.supplies.now in
    let i = c.loop-i.i in
    let x = c.index-supplies-i.result in
    let one_more = take_more supplies i x c.loop-i-test.true
    ∙ ap (λ z. take i supplies ++ z ∷ []) (sym c.index-supplies-i.is) in
    subst (λ l. AreSuppliedAll cert of refuses l c.args.paths.now c.supply_each.new.paths (Ok tt))
    (sym one_more)
    (all-more cert of refuses (take i supplies) x c.args.paths.now c.loop-i.paths
    c.supply_each.new.paths _ c.loop-i.invariant c.in-Ok.ensures)
