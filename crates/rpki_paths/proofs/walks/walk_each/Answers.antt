-- One certificate more has a path, or none has one that a CA stands on.
use Rattle.std.proofs.Common.{◌≡◌, ◌<◌, ◌+◌, ◌*◌, ℕ, length, map, take, ◌++◌, ◌∷◌, [], refl}
use Rattle.std.proofs.Common.{sym, ap}
use Rattle.std.proofs.Common.{◌∙◌, subst, arith, suc, suc-mul}
use Rattle.std.specs.Prelude.{slice_index}
use Rattle.std.proofs.lemmas.Option.{slice_get_read}
use Rattle.std.proofs.lemmas.List.{take_more, take_all, length-replicate}
use Rattle.rpki_paths.specs.Index.{IsIndex}
use Rattle.rpki_paths.specs.Walk.{placed, KeepsVisited}
use Rattle.rpki_paths.specs.Kept.{AreRefused}
use Rattle.rpki_paths.proofs.Heads.{more-heads, no-heads}
use Rattle.rpki_paths.proofs.PairingOff.{written-back, split-at}
use Rattle.rpki_paths.proofs.Walking.{get-in, length-placed}
use Rattle.rpki_paths.proofs.WalkingEach.{IsWalkingEach, each-none, each-more, each-fresh}
use Rattle.rpki_paths.proofs.WalkingEach.{each-refused, each-unused, each-done}
use Rattle.rpki_paths.proofs.walks.walk_each.Goals as goal

pub loop-i-init : goal.loop-i-init
loop-i-init g c =
    let none = c.in_ok-visited.ensures.items_if_clones_equal (λ y e. e) in (
      ap length none ∙ length-replicate (length c.args.cas.now) _,
      each-none g.C.Certificate.cert (placed g.C.Certificate.cert 1 c.args.cas.now) _ _ _
          (length c.args.cas.now) refl c.new-paths.ensures.items none,
      λ dist. omega arith,
      no-heads (c.args.ees.now ++ c.args.cas.now) _ c.new-paths.ensures.items,
    )

pub walk-requires-clause-index : goal.walk-requires-clause-index
walk-requires-clause-index g c =
    subst (λ ids. IsIndex ids c.in_ok-index.index)
    (c.deref.ensures.value ∙ c.in_ok-ids.ensures) c.in_ok-index.ensures

pub walk-requires-clause-fresh : goal.walk-requires-clause-fresh
walk-requires-clause-fresh g c =
    subst (λ m. (k : ℕ) → k < length m → ¬ (slice_index m k ≡ c.loop-i.i + 1))
    (sym c.deref_mut.ensures.value)
    (λ k lt. each-fresh g.C.Certificate.cert (placed g.C.Certificate.cert 1 c.args.cas.now)
    (take c.loop-i.i c.args.ees.now) c.loop-i.paths.items c.loop-i.visited.items c.loop-i.i
    c.loop-i.invariant.1 k)

pub returns-in-Err-clause-refused : goal.returns-in-Err-clause-refused
returns-in-Err-clause-refused g c =
    let cert = g.C.Certificate.cert in
    let cas = placed cert 1 c.args.cas.now in
    let ees = c.args.ees.now in
    let i = c.loop-i.i in
    let at_i = slice_get_read ees (length ees) i _ refl c.loop-i-test.true c.index-ees-i.is in
    let parts = split-at ees i c.index-ees-i.result at_i in
    subst (λ f. AreRefused f cas (map cert ees)) (sym c.from_path.ensures)
    (each-refused cert cas (take i ees) c.loop-i.paths.items c.loop-i.visited.items i
    c.loop-i.invariant.1 ees c.index-ees-i.result parts.0 parts.1 c.in-Err.fault
    c.in-Err.ensures.refused)

pub loop-i-preserved : goal.loop-i-preserved
loop-i-preserved g c =
    let cert = g.C.Certificate.cert in
    let cas = placed cert 1 c.args.cas.now in
    let ees = c.args.ees.now in
    let i = c.loop-i.i in
    let e = c.index-ees-i.result in
    let old = c.loop-i.visited.items in
    let new = c.walk.new.visited in
    let as_many : length new ≡ length old =
    c.in-Ok.ensures.as_many ∙ ap length c.deref_mut.ensures.value in
    let back = written-back c.loop-i.visited.len new old as_many
    (omega (arith, as_many, c.loop-i.visited.ok.0)) in
    let one_more = take_more ees i e c.loop-i-test.true
    ∙ ap (λ z. take i ees ++ z ∷ []) (sym c.index-ees-i.is) in
    let keeps = subst (λ m. KeepsVisited (i + 1) m new) c.deref_mut.ensures.value
    c.in-Ok.ensures.others in (
      ap length back ∙ as_many ∙ c.loop-i.invariant.0,
      subst (λ m. IsWalkingEach cert cas (take (i + 1) ees) c.append.new.items.items m (i + 1))
          (sym back)
          (each-more cert cas (take i ees) c.loop-i.paths.items old i c.loop-i.invariant.1
          (take (i + 1) ees) e c.in-Ok.path c.append.new.items.items new one_more
          c.in_ok-append-in-Ok.ensures c.in-Ok.ensures.path c.in-Ok.ensures.not_anchored keeps),
      λ dist.
          (let n = length c.args.cas.now in
          let more : (i + 1) * n ≡ i * n + n =
          let s : i + 1 ≡ suc i = omega arith in ap (λ m. m * n) s ∙ suc-mul i n in
          omega (arith, c.loop-i.invariant.2 dist, c.in-Ok.ensures.cost dist, more)),
      more-heads ees c.args.cas.now e c.loop-i.paths.items c.append.new.items.items c.in-Ok.path
          c.in_ok-append-in-Ok.ensures
          (get-in ees i e (slice_get_read ees (length ees) i e refl c.loop-i-test.true
          c.index-ees-i.is)) c.in-Ok.ensures.head c.loop-i.invariant.3,
    )

pub returns-then-place-cas-clause-refused : goal.returns-then-place-cas-clause-refused
returns-then-place-cas-clause-refused g c =
    let cert = g.C.Certificate.cert in
    let cas = placed cert 1 c.args.cas.now in
    let i = c.loop-i.i in
    let place = c.first_unvisited-place.result in
    let value : c.as_slice.result.now ≡ c.loop-i.visited.items = c.as_slice.ensures.value in
    each-unused cert cas (take i c.args.ees.now) c.loop-i.paths.items c.loop-i.visited.items i
    c.loop-i.invariant.1 c.args.ees.now place
    (take_all i c.args.ees.now (omega (arith, c.loop-i-test.false)))
    (omega (arith, c.if-place-cas.true, length-placed cert 1 c.args.cas.now))
    (sym (ap (λ m. slice_index m place) value)
    ∙ c.first_unvisited-place.ensures.found
    (omega (arith, c.if-place-cas.true, ap length value, c.loop-i.invariant.0)))
    (λ k lt e. c.first_unvisited-place.ensures.before k lt (ap (λ m. slice_index m k) value ∙ e))

pub returns-clause-paths : goal.returns-clause-paths
returns-clause-paths g c =
    let cert = g.C.Certificate.cert in
    let cas = placed cert 1 c.args.cas.now in
    let i = c.loop-i.i in
    let value : c.as_slice.result.now ≡ c.loop-i.visited.items = c.as_slice.ensures.value in
    each-done cert cas (take i c.args.ees.now) c.loop-i.paths.items c.loop-i.visited.items i
    c.loop-i.invariant.1 c.args.ees.now
    (take_all i c.args.ees.now (omega (arith, c.loop-i-test.false)))
    (c.loop-i.invariant.0 ∙ sym (length-placed cert 1 c.args.cas.now))
    (λ k lt e. c.first_unvisited-place.ensures.before k
    (omega (arith, lt, c.loop-i.invariant.0, c.if-place-cas.false))
    (ap (λ m. slice_index m k) value ∙ e))
