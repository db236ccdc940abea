-- One item more takes its partner; where it stops, there is no pairing.
use Rattle.std.proofs.Common.{◌≡◌, ◌+◌, ◌*◌, suc, length, take, ◌++◌, ◌∷◌, []}
use Rattle.std.proofs.Common.{refl, sym, ap, ◌∙◌, subst, arith}
use Rattle.std.proofs.Math.Nat.{mul-suc}
use Rattle.std.proofs.lemmas.Option.{slice_get_read}
use Rattle.std.proofs.lemmas.List.{take_more, take_all, length-replicate}
use Rattle.rpki_paths.specs.Taking.{IsTakenAt, FitsNone, left_of}
use Rattle.rpki_paths.specs.Pairing.{IsPair}
use Rattle.rpki_paths.proofs.Walking.{get-in}
use Rattle.rpki_paths.proofs.PairingOff.{IsPairingOff, pairing-none, pairing-more, pairing-stops}
use Rattle.rpki_paths.proofs.PairingOff.{pairing-done, pairing-leaves, written-back, split-at}
use Rattle.rpki_paths.proofs.PairingOff.{left-in}
use Rattle.rpki_paths.proofs.pairs.pair_off.Goals as goal

pub loop-i-init : goal.loop-i-init
loop-i-init g c =
    let none = c.in_ok-taken.ensures.items_if_clones_equal (λ y e. e) in (
      ap length none ∙ length-replicate (length c.args.others.now) _,
      pairing-none (IsPair g.X.Seeks.sought g.X.Seeks.held g.X.Seeks.verdict) c.args.takers.now
          c.args.others.now c.in_ok-taken.taken.items c.new-places.result.items none
          c.new-places.ensures.items,
      λ each. omega arith,
    )

pub returns-in-None-clause-refused : goal.returns-in-None-clause-refused
returns-in-None-clause-refused g c =
    let R = IsPair g.X.Seeks.sought g.X.Seeks.held g.X.Seeks.verdict in
    let takers = c.args.takers.now in
    let i = c.loop-i.i in
    let at_i = slice_get_read takers (length takers) i _ refl c.loop-i-test.true
    c.index-takers-i.is in
    let parts = split-at takers i c.index-takers-i.result at_i in
    let none = subst (λ m. FitsNone (R c.index-takers-i.result) (left_of m c.args.others.now))
    c.deref_mut.ensures.value c.in-None.ensures.none in
    pairing-stops R takers c.args.others.now c.loop-i.taken.items c.loop-i.places.items i
    c.index-takers-i.result parts.0 c.loop-i.invariant.1 c.loop-i-test.true parts.1 none

pub loop-i-preserved : goal.loop-i-preserved
loop-i-preserved g c =
    let R = IsPair g.X.Seeks.sought g.X.Seeks.held g.X.Seeks.verdict in
    let takers = c.args.takers.now in
    let others = c.args.others.now in
    let i = c.loop-i.i in
    let x = c.index-takers-i.result in
    let old = c.loop-i.taken.items in
    let new = c.take_first.new.taken in
    let price = g.X.Seeks.price in
    let as_many : length new ≡ length old =
    c.in-Some.ensures.as_many ∙ ap length c.deref_mut.ensures.value in
    let back = written-back c.loop-i.taken.len new old as_many
    (omega (arith, as_many, c.loop-i.taken.ok.0)) in
    let one_more = take_more takers i x c.loop-i-test.true
    ∙ ap (λ z. take i takers ++ z ∷ []) (sym c.index-takers-i.is) in
    let taken = subst (λ m. IsTakenAt (R x) others m new c.in-Some.place)
    c.deref_mut.ensures.value c.in-Some.ensures.first in (
      ap length back ∙ as_many ∙ c.loop-i.invariant.0,
      subst (λ m. IsPairingOff R takers others m c.append.new.items.items (i + 1)) (sym back)
          (pairing-more R takers others old new c.loop-i.places.items i x c.in-Some.place _
          c.loop-i.invariant.1 one_more taken c.in_ok-append-in-Some.ensures),
      λ each.
          (let in_takers = get-in takers i x
          (slice_get_read takers (length takers) i x refl c.loop-i-test.true c.index-takers-i.is) in
          let more : price * (i + 1) ≡ price * i + price =
          let s : i + 1 ≡ suc i = omega arith in ap (λ n. price * n) s ∙ mul-suc price i in
          let one = c.in-Some.ensures.cost
          (λ y j. each x in_takers y (left-in _ others y j)) in
          omega (arith, c.loop-i.invariant.2 each, one, more)),
    )

pub returns-then-takers-others-clause-refused : goal.returns-then-takers-others-clause-refused
returns-then-takers-others-clause-refused g c =
    pairing-leaves (IsPair g.X.Seeks.sought g.X.Seeks.held g.X.Seeks.verdict) c.args.takers.now
    c.args.others.now c.loop-i.taken.items c.loop-i.places.items c.loop-i.i c.loop-i.invariant.1
    (take_all c.loop-i.i c.args.takers.now (omega (arith, c.loop-i-test.false)))
    c.if-takers-others.true

pub returns-clause-paired : goal.returns-clause-paired
returns-clause-paired g c =
    pairing-done (IsPair g.X.Seeks.sought g.X.Seeks.held g.X.Seeks.verdict) c.args.takers.now
    c.args.others.now c.loop-i.taken.items c.loop-i.places.items c.loop-i.i c.loop-i.invariant.1
    (take_all c.loop-i.i c.args.takers.now (omega (arith, c.loop-i-test.false)))
    (omega (arith, c.if-takers-others.false))
