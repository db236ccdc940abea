-- One path more is supplied, or declined and written back.
use Rattle.std.proofs.Common.{get_or, set, sym, subst, arith, IsTrue, ◌&&◌, ◌+◌, Bool}
use Rattle.std.specs.Prelude.{◌↔◌}
use Rattle.std.proofs.lemmas.Option.{slice_get-get_or}
use Rattle.rpki_paths.specs.Supplied.{supply_of, AreAnchoredTo}
use Rattle.rpki_paths.proofs.Supplies.{as-before, supplied-more, anchored-more, supplied-stays}
use Rattle.rpki_paths.proofs.supply.supply_each.Goals as goal

pub returns-in-Err : goal.returns-in-Err
returns-in-Err g c =
    let cert = g.C.Certificate.cert in
    let s = supply_of g.T.Locator.key g.S.SuppliedCa.ski g.S.SuppliedCa.key g.S.SuppliedCa.sets
    c.args.supplied.now in
    let w = c.loop-i.invariant.0 in
    let p = get_or c.loop-i.paths c.loop-i.i c.index-paths-i.result in
    let at_i = slice_get-get_or c.loop-i.paths c.loop-i.i c.index-paths-i.result (omega arith) in (
      c.loop-i.i,
      p,
      as-before cert s c.args.paths.now c.loop-i.paths c.loop-i.i p p w at_i,
      c.in-Err.ensures.1,
      supplied-stays cert s c.args.paths.now c.loop-i.paths c.loop-i.i c.index-paths-i.result
          c.supply.new.self w c.in-Err.ensures.0,
    )

pub loop-i-preserved : goal.loop-i-preserved
loop-i-preserved g c =
    let cert = g.C.Certificate.cert in
    let s = supply_of g.T.Locator.key g.S.SuppliedCa.ski g.S.SuppliedCa.key g.S.SuppliedCa.sets
    c.args.supplied.now in
    let w = c.loop-i.invariant.0 in
    let p = get_or c.loop-i.paths c.loop-i.i c.index-paths-i.result in
    let q = c.supply.new.self in
    let at_i = slice_get-get_or c.loop-i.paths c.loop-i.i c.index-paths-i.result (omega arith) in (
      supplied-more cert s c.args.paths.now c.loop-i.paths c.loop-i.i p q w at_i
          c.in-Ok.ensures.1,
      subst (λ (b : Bool). IsTrue (c.loop-i.done && b)
          ↔ AreAnchoredTo (set c.loop-i.paths c.loop-i.i q) (c.loop-i.i + 1))
          (sym c.in-Ok.ensures.0)
          (anchored-more cert s c.args.paths.now c.loop-i.paths c.loop-i.i p q w at_i
          c.loop-i.done c.loop-i.invariant.1),
    )
