-- The certificates so far have paths.
use Rattle.std.proofs.Common.{◌≡◌, ◌≤◌, ◌+◌, ◌*◌, ◌++◌, length, take}
use Rattle.rpki_paths.specs.Heads.{HeadsAmong}
use Rattle.rpki_paths.specs.Path.{IsDistinct}
use Rattle.rpki_paths.specs.Walk.{placed}
use Rattle.rpki_paths.proofs.WalkingEach.{IsWalkingEach}
use Rattle.rpki_paths.proofs.walks.walk_each.Given as goal

abbrev pub invariant-loop-i : goal.invariant-loop-i
invariant-loop-i g l =
    (length l.visited.items ≡ length l.cas)
    × IsWalkingEach g.C.Certificate.cert (placed g.C.Certificate.cert 1 l.cas) (take l.i l.ees)
    l.paths.items l.visited.items l.i
    × (IsDistinct (placed g.C.Certificate.cert 1 l.cas) →
    l.asked ≤ l.fn.asked + l.i * length l.cas)
    × HeadsAmong (l.ees ++ l.cas) l.paths.items
