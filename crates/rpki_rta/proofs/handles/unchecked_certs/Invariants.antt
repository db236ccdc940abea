-- The unchecked certificates so far.
use Rattle.std.proofs.Common.{◌≡◌, map, take}
use Rattle.rpki_rta.specs.Handles.{unchecked_view}
use Rattle.rpki_rta.proofs.handles.unchecked_certs.Given as goal

abbrev pub invariant-loop-i : goal.invariant-loop-i
invariant-loop-i g l =
    map unchecked_view l.unchecked.items
    ≡ map (λ c. (c.certificate, (l.crypto, l.now))) (take l.i l.certs)
