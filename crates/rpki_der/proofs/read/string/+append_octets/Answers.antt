use Rattle.std.proofs.Common.{◌≡◌, ◌≤◌, ◌-◌, None, Some, length, arith}
use Rattle.std.proofs.lemmas.Grind.{common_steps}
use Rattle.rpki_der.specs.Read.Parse.{octets_at, pieces}
use Rattle.rpki_der.proofs.Reading.Strings.{octets-takes, octets-none, octets-none-at}
use Rattle.rpki_der.proofs.Reading.Strings.{octets-primitive, octets-other, octets-der}
use Rattle.rpki_der.proofs.Reading.Strings.{octets-pieces, put-more, put-fails, put-all, not-der}
use Rattle.rpki_der.proofs.read.string.+append_octets.Goals as goal

pub returns-then-depth-eq0 : goal.returns-then-depth-eq0
returns-then-depth-eq0 t c = octets-none-at _ _ _ c.if-depth-eq0.true

pub returns-in-None : goal.returns-in-None
returns-in-None t c = octets-none _ _ _ c.in-None.ensures

pub returns-then-tag : goal.returns-then-tag
returns-then-tag t c =
    let d : 1 ≤ c.args.depth = omega arith in (
      c.in-Some.contents.now,
      octets-primitive c.args.depth c.args.mode c.args.bytes.now c.in-Some.tag
          c.in-Some.contents.now c.in-Some.after.now d c.in-Some.ensures c.if-tag.true,
      c.in_ok-extend_from_slice-in-Some.ensures.items,
    )

pub returns-then-tag-2 : goal.returns-then-tag-2
returns-then-tag-2 t c =
    let d : 1 ≤ c.args.depth = omega arith in
    octets-other c.args.depth c.args.mode c.args.bytes.now c.in-Some.tag c.in-Some.contents.now
    c.in-Some.after.now d c.in-Some.ensures c.if-tag.false c.if-tag-2.true

pub returns-in-Der : goal.returns-in-Der
returns-in-Der t c =
    let d : 1 ≤ c.args.depth = omega arith in
    octets-der c.args.depth c.args.mode c.args.bytes.now c.in-Some.tag c.in-Some.contents.now
    c.in-Some.after.now d c.in-Some.ensures c.if-tag.false c.in-Der.is

pub returns-in-None-2 : goal.returns-in-None-2
returns-in-None-2 t c =
    let d : 1 ≤ c.args.depth = omega arith in
    let is36 : c.in-Some.tag ≡ 36 = grind (arith, common_steps) in
    let some : 1 ≤ length c.loop-rest.rest.now = grind (arith, common_steps) in
    let fails : octets_at (c.args.depth - 1) c.args.mode c.loop-rest.rest.now ≡ None =
    rw c.in-None-2.is at c.in_ok-append_octets-in-Some.ensures in
    let none : pieces (octets_at (c.args.depth - 1)) c.args.mode c.in-Some.contents.now ≡ None =
    put-fails (octets_at (c.args.depth - 1)) c.args.mode
    (octets-takes (c.args.depth - 1) c.args.mode)
    _ _ _ _ c.loop-rest.invariant some fails in
    octets-pieces c.args.depth c.args.mode c.args.bytes.now c.in-Some.tag c.in-Some.contents.now
    c.in-Some.after.now None d c.in-Some.ensures is36 (not-der _ c.in_default.not-Der) none

pub loop-rest-smaller : goal.loop-rest-smaller
loop-rest-smaller t c =
    let a = rw c.in-Some-2.is at c.in_ok-append_octets-in-Some.ensures in
    (octets-takes (c.args.depth - 1)
    c.args.mode).at c.loop-rest.rest.now a.0 c.in-Some-2.others.now a.1

pub loop-rest-preserved : goal.loop-rest-preserved
loop-rest-preserved t c =
    let a = rw c.in-Some-2.is at c.in_ok-append_octets-in-Some.ensures in
    put-more (octets_at (c.args.depth - 1)) c.args.mode
    (octets-takes (c.args.depth - 1) c.args.mode)
    _ _ _ _ a.0 c.in-Some-2.others.now _ c.loop-rest.invariant a.1 a.2

pub returns-after-loop-rest : goal.returns-after-loop-rest
returns-after-loop-rest t c =
    let d : 1 ≤ c.args.depth = omega arith in
    let is36 : c.in-Some.tag ≡ 36 = grind (arith, common_steps) in
    let none : length c.loop-rest.rest.now ≡ 0 = grind (arith, common_steps) in
    let all : pieces (octets_at (c.args.depth - 1)) c.args.mode c.in-Some.contents.now
    ≡ Some c.loop-rest.invariant.put =
    put-all (octets_at (c.args.depth - 1)) c.args.mode
    (octets-takes (c.args.depth - 1) c.args.mode) _ _ _ _ c.loop-rest.invariant none in (
      c.loop-rest.invariant.put,
      octets-pieces c.args.depth c.args.mode c.args.bytes.now c.in-Some.tag c.in-Some.contents.now
          c.in-Some.after.now (Some c.loop-rest.invariant.put) d c.in-Some.ensures is36
          (not-der _ c.in_default.not-Der) all,
      c.loop-rest.invariant.now_is,
    )
