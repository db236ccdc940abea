use Rattle.rpki_certs.proofs.Valid.{anchor-valid}
use Rattle.rpki_certs.proofs.laws.valid_anchors.Goals as goal

pub returns : goal.returns
returns c = anchor-valid
