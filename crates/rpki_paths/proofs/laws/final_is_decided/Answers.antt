-- The anchors of the paths are the first supplies that fit.
use Rattle.rpki_paths.proofs.Finals.{final_is_decided}
use Rattle.rpki_paths.proofs.laws.final_is_decided.Goals as goal

pub returns : goal.returns
returns g c = final_is_decided g.C.Certificate.cert
