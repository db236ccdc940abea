use Rattle.std.proofs.Common.{◌≡◌, length}
use Rattle.std.specs.Prelude.{map}
use Rattle.rpki_signed.specs.Walk.{at_hand, walk_of}
use Rattle.rpki_signed.proofs.walk.WalkIterator.next.Given as goal

abbrev pub invariant-loop-entry : goal.invariant-loop-entry
invariant-loop-entry g l =
    walk_of (g.C.Crypto.digest_of l.self-inside.crypto.now)
    (map (at_hand g.N.AsOctets.meaning g.O.AsOctets.meaning) l.self-inside.files.now)
    l.self-inside.entries ≡ l.fn.self

abbrev pub decreases-loop-entry : goal.decreases-loop-entry
decreases-loop-entry g l = length l.self-inside.entries
