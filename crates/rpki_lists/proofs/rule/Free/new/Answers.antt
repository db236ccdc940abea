use Rattle.rpki_lists.proofs.Counting.{free-admits}
use Rattle.rpki_lists.proofs.rule.Free.new.Goals as goal

pub returns : goal.returns
returns g c = λ entries. free-admits _ entries
