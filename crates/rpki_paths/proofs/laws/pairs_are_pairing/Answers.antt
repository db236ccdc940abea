-- The law, at whatever is paired.
use Rattle.rpki_paths.specs.Pairing.{IsPair}
use Rattle.rpki_paths.proofs.PairingOff.{pairs_are_pairing}
use Rattle.rpki_paths.proofs.laws.pairs_are_pairing.Goals as goal

pub returns : goal.returns
returns g c = pairs_are_pairing (IsPair g.X.Seeks.sought g.X.Seeks.held g.X.Seeks.verdict)
