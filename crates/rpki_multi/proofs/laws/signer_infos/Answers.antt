use Rattle.rpki_der.specs.Tags.{SEQUENCE}
use Rattle.rpki_resources.proofs.Readings.{part-reading}
use Rattle.rpki_sigobj.proofs.Objects.Exact.{signer-info-part}
use Rattle.rpki_multi.proofs.laws.signer_infos.Goals as goal

pub returns : goal.returns
returns c = λ kind. part-reading (signer-info-part kind) (λ mode o x h. (SEQUENCE, h.0, h.1))
