use Rattle.std.proofs.Common.{◌≡◌, ◌≤◌, ◌-◌, length, arith, rules}
use Rattle.rpki_der.proofs.Reading.Places.{places, some-places}
use Rattle.rpki_der.proofs.read.header.place_of.Goals as goal
use Rattle.rpki_der.proofs.read.header.place_of.Goals.{then-bytes, else-bytes}

pub overflow_sub-next : goal.overflow_sub-next
overflow_sub-next c = (some-places _ _ _ _ _ c.in_ok-contents.ensures).1

pub bounds-bytes-1 : goal.bounds-bytes-1
bounds-bytes-1 c = let h : 2 ≤ length c.args.bytes.now =
    (some-places _ _ _ _ _ c.in_ok-contents.ensures).0 in search rules

pub overflow_sub-end : goal.overflow_sub-end
overflow_sub-end c = let p = (places _ _ _ _ _ c.in_ok-contents.ensures).0 c.if-bytes.true in
    omega (arith, p.room)

pub overflow_sub-result : goal.overflow_sub-result
overflow_sub-result c =
    elim c.if-bytes.branch [
      | then-bytes w ↦ let p = (places _ _ _ _ _ c.in_ok-contents.ensures).0 w.if-bytes.true in
          omega (arith, p.room, w.end-is)
      | else-bytes w ↦ let p = (places _ _ _ _ _ c.in_ok-contents.ensures).1 w.if-bytes.false in
          omega (arith, p.room, w.end-is)
    ]

pub returns : goal.returns
returns c =
    elim c.if-bytes.branch [
      | then-bytes w ↦
          let p = (places _ _ _ _ _ c.in_ok-contents.ensures).0 w.if-bytes.true in (
            omega arith,
            omega (arith, p.room, w.end-is),
            omega arith,
            rw w.end-is (rw (p.inner, p.outer) c.in_ok-contents.ensures),
          )
      | else-bytes w ↦
          let p = (places _ _ _ _ _ c.in_ok-contents.ensures).1 w.if-bytes.false in
          let z : length c.args.bytes.now - length c.in_ok-contents.after.now - 0
          ≡ length c.args.bytes.now - length c.in_ok-contents.after.now = omega arith in
          let inner = rw z at p.inner in (
            omega arith,
            omega (arith, p.room, w.end-is),
            omega arith,
            rw w.end-is (rw (inner, p.outer) c.in_ok-contents.ensures),
          )
    ]
