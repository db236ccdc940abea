use Rattle.rpki_der.specs.declared.mode.Mode.TheVariants.{Der}
use Rattle.rpki_der.proofs.Form.Decoders.{decodes}
use Rattle.rpki_crls.specs.Crl.{KeptCrl}
use Rattle.rpki_crls.proofs.Crls.Exact.{crl-part}
use Rattle.rpki_crls.proofs.crl.Crl.decode.Goals as goal

pub returns-clause-decodes : goal.returns-clause-decodes
returns-clause-decodes c =
    decodes crl-part Der c.args.source (λ (k : KeptCrl). k.list) c.read_front.result
    (rw c.as_slice.ensures at c.slices_hold_octets.ensures.octets) c.read_front.ensures.found
