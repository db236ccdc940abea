use Rattle.rpki_rsa.proofs.SampleSigned.{sample-signed}
use Rattle.rpki_rsa.proofs.laws.a_signature_is_signed.Goals as goal

pub returns : goal.returns
returns c = sample-signed
