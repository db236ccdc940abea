use Rattle.std.proofs.Common.{arith}
use Rattle.rpki_der.proofs.Reading.Skips.{skip-front}
use Rattle.rpki_der.proofs.Reading.Places.{after-front}
use Rattle.rpki_der.proofs.read.skip.skip_place.Goals as goal

pub overflow_sub-result : goal.overflow_sub-result
overflow_sub-result c = let f = skip-front _ _ _ _ _ c.in_ok-after.ensures in
    (after-front _ f.0 _ f.1).0

pub returns : goal.returns
returns c = let f = skip-front _ _ _ _ _ c.in_ok-after.ensures in let a = after-front _ f.0 _ f.1 in
    (omega arith, rw a.1 c.in_ok-after.ensures)
