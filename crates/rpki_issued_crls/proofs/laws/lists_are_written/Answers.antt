use Rattle.rpki_issued_crls.proofs.Written.{list-written}
use Rattle.rpki_issued_crls.proofs.laws.lists_are_written.Goals as goal

pub returns : goal.returns
returns c = list-written
