use Rattle.std.proofs.Common.{arith}
use Rattle.rpki_der.proofs.Reading.Strings.{octets-front}
use Rattle.rpki_der.proofs.Reading.Places.{after-front}
use Rattle.rpki_der.proofs.read.string.string_place.Goals as goal

pub overflow_sub-result : goal.overflow_sub-result
overflow_sub-result c =
    let a = rw c.in-Some.is at c.in_ok-append_octets.ensures in
    let f = octets-front _ _ _ _ _ a.1 in
    (after-front _ f.0 _ f.1).0

pub returns-in-Some : goal.returns-in-Some
returns-in-Some c =
    let a = rw c.in-Some.is at c.in_ok-append_octets.ensures in
    let f = octets-front _ _ _ _ _ a.1 in
    let b = after-front _ f.0 _ f.1 in
    (omega arith, a.0, rw b.1 a.1, a.2)
