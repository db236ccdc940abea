-- A pairing has as many of each.
use Rattle.rpki_paths.specs.Pairing.{IsPair}
use Rattle.rpki_paths.proofs.PairingOff.{left_over_is_unpairable}
use Rattle.rpki_paths.proofs.laws.left_over_is_unpairable.Goals as goal

pub returns : goal.returns
returns g c = left_over_is_unpairable (IsPair g.X.Seeks.sought g.X.Seeks.held g.X.Seeks.verdict)
