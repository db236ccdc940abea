use Rattle.rpki_faults.proofs.Order.{first-fails}
use Rattle.rpki_certs.specs.Validate.{ta_validation}
use Rattle.rpki_certs.proofs.Valid.{anchor-valid}
use Rattle.rpki_certs.proofs.laws.refused_anchors.Goals as goal

pub returns : goal.returns
returns c = λ verdict d now fault h good.
    first-fails (ta_validation verdict d now) fault h ((anchor-valid verdict d now).1 good)
