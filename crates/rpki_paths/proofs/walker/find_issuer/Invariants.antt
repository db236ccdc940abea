-- The places that are left have all that may verify.
use Rattle.std.proofs.Common.{length}
use Rattle.rpki_paths.specs.Walk.{placed}
use Rattle.rpki_paths.proofs.Walking.{IsSearching}
use Rattle.rpki_paths.proofs.walker.find_issuer.Given as goal

abbrev pub invariant-loop-first : goal.invariant-loop-first
invariant-loop-first g l =
    IsSearching (placed g.C.Certificate.cert 1 l.cas) (g.C.Certificate.cert l.cert).aki
    (g.C.Certificate.cert l.cert).verifies l.named l.left l.initial.asked l.asked

abbrev pub decreases-loop-first : goal.decreases-loop-first
decreases-loop-first g l = length l.left
