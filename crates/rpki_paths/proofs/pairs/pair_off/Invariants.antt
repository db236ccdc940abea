-- The items so far have partners, and each cost one verdict.
use Rattle.std.proofs.Common.{◌≡◌, ◌≤◌, ◌+◌, ◌*◌, length}
use Rattle.rpki_paths.specs.Taking.{AllVerifyEach}
use Rattle.rpki_paths.specs.Pairing.{IsPair}
use Rattle.rpki_paths.proofs.PairingOff.{IsPairingOff}
use Rattle.rpki_paths.proofs.pairs.pair_off.Given as goal

abbrev pub invariant-loop-i : goal.invariant-loop-i
invariant-loop-i g l =
    (length l.taken.items ≡ length l.others)
    × IsPairingOff (IsPair g.X.Seeks.sought g.X.Seeks.held g.X.Seeks.verdict) l.takers l.others
    l.taken.items l.places.items l.i
    × (AllVerifyEach g.X.Seeks.sought g.X.Seeks.held g.X.Seeks.verdict l.takers l.others →
    l.asked ≤ l.fn.asked + g.X.Seeks.price * l.i)
