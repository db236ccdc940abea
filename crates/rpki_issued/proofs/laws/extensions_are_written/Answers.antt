use Rattle.rpki_issued.proofs.CertExtensions.{extensions-written}
use Rattle.rpki_issued.proofs.laws.extensions_are_written.Goals as goal

pub returns : goal.returns
returns c = extensions-written
