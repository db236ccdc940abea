use Rattle.rpki_der.specs.Tags.{context}
use Rattle.rpki_der.proofs.Reading.After.{leaves-after}
use Rattle.rpki_attributes.specs.Attrs.{SignedAttrsForm}
use Rattle.rpki_attributes.proofs.laws.octets_after_signed_attributes_are_left.Goals as goal

pub returns : goal.returns
returns c = λ others mode.
    leaves-after mode (SignedAttrsForm others mode) (λ o x h. (context 0, x.contents, h.0))
