use Rattle.std.proofs.Common.{◌≡◌, arith, sym, ◌∙◌, None, Some}
use Rattle.rpki_der.specs.Read.Parse.{end_of, step}
use Rattle.rpki_der.proofs.Reading.Scan.{end-step, end-done, end-none, step-room}
use Rattle.rpki_der.proofs.read.header.end_of.Goals as goal

pub returns-in_err-after : goal.returns-in_err-after
returns-in_err-after c =
    let e : end_of 0 c.args.bytes.now ≡ None = sym c.loop-after.invariant.same
    ∙ end-none _ _ c.in_err-after.ensures in
    rw c.from_residual.ensures e

pub returns-in-None-default : goal.returns-in-None-default
returns-in-None-default c =
    let was : step c.loop-after.depth c.loop-after.rest.now
    ≡ Some (c.in_ok-after.field-0.0, c.in_ok-after.field-0.1.now) = c.in_ok-after.ensures in
    let h : step c.loop-after.depth c.loop-after.rest.now
    ≡ Some (None, c.in_ok-after.field-0.1.now) = cc (was, c.in-None-default.is-0) in
    sym c.loop-after.invariant.same ∙ end-done _ _ _ h

pub loop-after-smaller : goal.loop-after-smaller
loop-after-smaller c =
    let was : step c.loop-after.depth c.loop-after.rest.now
    ≡ Some (c.in_ok-after.field-0.0, c.in_ok-after.field-0.1.now) = c.in_ok-after.ensures in
    let h : step c.loop-after.depth c.loop-after.rest.now
    ≡ Some (Some c.in-Some-default.k, c.in_ok-after.field-0.1.now) =
    cc (was, c.in-Some-default.is-0) in
    (step-room c.loop-after.depth c.in-Some-default.k c.loop-after.rest.now
    c.in_ok-after.field-0.1.now h).1

pub loop-after-preserved : goal.loop-after-preserved
loop-after-preserved c =
    let was : step c.loop-after.depth c.loop-after.rest.now
    ≡ Some (c.in_ok-after.field-0.0, c.in_ok-after.field-0.1.now) = c.in_ok-after.ensures in
    let h : step c.loop-after.depth c.loop-after.rest.now
    ≡ Some (Some c.in-Some-default.k, c.in_ok-after.field-0.1.now) =
    cc (was, c.in-Some-default.is-0) in
    let r = step-room c.loop-after.depth c.in-Some-default.k c.loop-after.rest.now
    c.in_ok-after.field-0.1.now h in
    record {
      same = sym (end-step _ _ _ _ h) ∙ c.loop-after.invariant.same;
      room = omega (arith, r.0, c.loop-after.invariant.room);
    }
