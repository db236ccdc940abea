-- The subjects of the others so far.
use Rattle.std.proofs.Common.{◌≡◌, map, take}
use Rattle.rpki_paths.proofs.walks.subjects.Given as goal

abbrev pub invariant-loop-i : goal.invariant-loop-i
invariant-loop-i g l = l.ids.items ≡ map (λ c. (g.C.Certificate.cert c).ski) (take l.i l.certs)
