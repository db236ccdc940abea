use Rattle.std.proofs.Common.{◌≡◌, ◌≤◌, ◌-◌, None, Some, true, false, length, arith, sym, ◌∙◌}
use Rattle.std.proofs.lemmas.Grind.{common_steps}
use Rattle.rpki_der.specs.Identifier.{is_constructed}
use Rattle.rpki_der.specs.Read.Parse.{skip_at, all_of, there}
use Rattle.rpki_der.proofs.Reading.Skips.{skip-none, skip-none-at, skip-primitive, skip-constructed}
use Rattle.rpki_der.proofs.Reading.Skips.{there-more, there-none, there-end, skip-takes}
use Rattle.rpki_der.proofs.read.skip.+skip_of.Goals as goal
use Rattle.rpki_der.proofs.read.skip.+skip_of.Goals.{
  then-is_constructed+else-loop-rest-test,
  else-is_constructed,
}

pub returns-then-depth-eq0 : goal.returns-then-depth-eq0
returns-then-depth-eq0 t c = skip-none-at _ _ _ c.if-depth-eq0.true

pub returns-in_err-tag : goal.returns-in_err-tag
returns-in_err-tag t c =
    let e : skip_at c.args.depth c.args.mode c.args.bytes.now ≡ None =
    skip-none _ _ _ c.in_err-tag.ensures in
    rw c.from_residual.ensures e

pub returns-in_err-rest : goal.returns-in_err-rest
returns-in_err-rest t c =
    let d : 1 ≤ c.args.depth = omega arith in
    let some : 1 ≤ length c.loop-rest.rest.now = grind (arith, common_steps) in
    let cons : is_constructed c.in_ok-tag.tag ≡ true =
    cc (c.is_constructed.ensures, c.if-is_constructed.true) in
    let none : there (all_of (skip_at (c.args.depth - 1)) c.args.mode c.in_ok-tag.contents.now)
    ≡ None = sym c.loop-rest.invariant
    ∙ there-none (skip_at (c.args.depth - 1)) c.args.mode
    (skip-takes (c.args.depth - 1) c.args.mode)
    c.loop-rest.rest.now some c.in_err-rest.ensures in
    let e : skip_at c.args.depth c.args.mode c.args.bytes.now ≡ None =
    skip-constructed c.args.depth c.args.mode c.args.bytes.now c.in_ok-tag.tag
    c.in_ok-tag.contents.now c.in_ok-tag.after.now None d c.in_ok-tag.ensures cons none in
    rw c.from_residual-in_err-rest.ensures e

pub loop-rest-smaller : goal.loop-rest-smaller
loop-rest-smaller t c =
    (skip-takes (c.args.depth - 1)
    c.args.mode).at c.loop-rest.rest.now tt c.in_ok-rest.rest.now c.in_ok-rest.ensures

pub loop-rest-preserved : goal.loop-rest-preserved
loop-rest-preserved t c =
    sym (there-more (skip_at (c.args.depth - 1)) c.args.mode
    (skip-takes (c.args.depth - 1) c.args.mode)
    c.loop-rest.rest.now tt c.in_ok-rest.rest.now c.in_ok-rest.ensures)
    ∙ c.loop-rest.invariant

pub returns : goal.returns
returns t c =
    let d : 1 ≤ c.args.depth = omega arith in
    elim c.if-is_constructed.branch [
      | then-is_constructed+else-loop-rest-test w ↦
          let cons : is_constructed c.in_ok-tag.tag ≡ true =
          cc (c.is_constructed.ensures, w.if-is_constructed.true) in
          let none : length w.loop-rest.rest.now ≡ 0 = grind (arith, common_steps) in
          let all : there (all_of (skip_at (c.args.depth - 1)) c.args.mode c.in_ok-tag.contents.now)
          ≡ Some tt = sym w.loop-rest.invariant
          ∙ there-end (skip_at (c.args.depth - 1)) c.args.mode
          (skip-takes (c.args.depth - 1) c.args.mode) w.loop-rest.rest.now none in
          skip-constructed c.args.depth c.args.mode c.args.bytes.now c.in_ok-tag.tag
          c.in_ok-tag.contents.now c.in_ok-tag.after.now
          (Some tt) d c.in_ok-tag.ensures cons all
      | else-is_constructed w ↦
          let cons : is_constructed c.in_ok-tag.tag ≡ false =
          cc (c.is_constructed.ensures, w.if-is_constructed.false) in
          skip-primitive c.args.depth c.args.mode c.args.bytes.now c.in_ok-tag.tag
          c.in_ok-tag.contents.now c.in_ok-tag.after.now d c.in_ok-tag.ensures cons
    ]
