use Rattle.rpki_multi.proofs.Builds.{read-as}
use Rattle.rpki_multi.proofs.laws.written_attestations_are_read.Goals as goal

pub returns : goal.returns
returns c = read-as
