-- Whatever the others choose, none fits the one that finds none.
use Rattle.rpki_paths.specs.Pairing.{IsPair}
use Rattle.rpki_paths.proofs.PairingOff.{unpaired_is_unpairable}
use Rattle.rpki_paths.proofs.laws.unpaired_is_unpairable.Goals as goal

pub returns : goal.returns
returns g c = unpaired_is_unpairable (IsPair g.X.Seeks.sought g.X.Seeks.held g.X.Seeks.verdict)
