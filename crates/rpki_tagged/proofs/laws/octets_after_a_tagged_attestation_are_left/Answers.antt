use Rattle.rpki_der.specs.Tags.{SEQUENCE}
use Rattle.rpki_der.proofs.Reading.After.{leaves-after}
use Rattle.rpki_tagged.specs.Attestation.{AttestationForm}
use Rattle.rpki_tagged.proofs.laws.octets_after_a_tagged_attestation_are_left.Goals as goal

pub returns : goal.returns
returns c = λ mode. leaves-after mode (AttestationForm mode) (λ o a h. (SEQUENCE, h.0, h.1))
