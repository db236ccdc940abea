-- The law, at whatever is paired.
use Rattle.rpki_paths.specs.Pairing.{IsPair}
use Rattle.rpki_paths.proofs.PairingOff.{finds-partner}
use Rattle.rpki_paths.proofs.laws.pairs_are_found.Goals as goal

pub returns : goal.returns
returns g c = finds-partner (IsPair g.X.Seeks.sought g.X.Seeks.held g.X.Seeks.verdict)
