use Rattle.rpki_show.proofs.Carried.{rta-dated}
use Rattle.rpki_show.proofs.laws.attestations_have_dates.Goals as goal

pub returns : goal.returns
returns c = rta-dated
