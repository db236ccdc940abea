use Rattle.rpki_der.specs.Tags.{SEQUENCE}
use Rattle.rpki_der.proofs.Reading.After.{leaves-after}
use Rattle.rpki_sigobj.specs.SignerInfo.{SignerInfoForm}
use Rattle.rpki_multi.specs.Attestation.{RtaForm}
use Rattle.rpki_multi.specs.Multi.{MultiForm}
use Rattle.rpki_multi.proofs.laws.octets_after_multi_signed_objects_are_left.Goals as goal

pub returns-clause-objects : goal.returns-clause-objects
returns-clause-objects c = λ mode.
    leaves-after mode (MultiForm mode) (λ o s h. (SEQUENCE, h.0, h.1))

pub returns-clause-attestations : goal.returns-clause-attestations
returns-clause-attestations c = λ mode.
    leaves-after mode (RtaForm mode) (λ o r h. (SEQUENCE, h.0.0, h.0.1))

pub returns-clause-signers : goal.returns-clause-signers
returns-clause-signers c = λ kind mode.
    leaves-after mode (SignerInfoForm kind mode) (λ o s h. (SEQUENCE, h.0, h.1))
