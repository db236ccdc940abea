-- In the middle of a walk: a covered chain of first issuers, its resources, and its visited CAs.
use Rattle.std.proofs.Common.{◌≡◌, ◌≤◌, ◌+◌, ◌∷◌, length}
use Rattle.rpki_paths.specs.Path.{IsDistinct}
use Rattle.rpki_paths.specs.Cert.{IsIn, at_place}
use Rattle.rpki_paths.specs.Walk.{KeepsVisited, placed}
use Rattle.rpki_paths.proofs.Walking.{IsWalking}
use Rattle.rpki_paths.proofs.walker.walk.Given as goal

abbrev pub invariant-loop-step : goal.invariant-loop-step
invariant-loop-step g l =
    (length l.visited ≡ length l.cas)
    × IsWalking (placed g.C.Certificate.cert 1 l.cas) (at_place 0 (g.C.Certificate.cert l.fn.ee))
    (at_place l.place (g.C.Certificate.cert l.head)) l.sets l.visited l.turn l.step
    × KeepsVisited l.turn l.fn.visited l.visited
    × (IsDistinct (placed g.C.Certificate.cert 1 l.cas) → l.asked ≤ l.fn.asked + l.step)
    × IsIn l.head (l.fn.ee ∷ l.cas)
