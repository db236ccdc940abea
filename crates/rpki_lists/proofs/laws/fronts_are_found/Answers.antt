use Rattle.rpki_lists.proofs.Fronts.{fronts}
use Rattle.rpki_lists.proofs.laws.fronts_are_found.Goals as goal

pub returns : goal.returns
returns g c = λ reading view octets result rest bytes h.
    fronts reading octets view result rest bytes h
