-- One claim more, over a covered path.
use Rattle.rpki_paths.proofs.Meets.{issuer-keeps}
use Rattle.rpki_paths.proofs.laws.issuer_keeps_meet.Goals as goal

pub returns : goal.returns
returns g c = issuer-keeps g.T.Number.number
