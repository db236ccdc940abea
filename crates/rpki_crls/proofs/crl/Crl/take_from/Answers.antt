use Rattle.rpki_der.proofs.Form.Decoders.{decodes-next}
use Rattle.rpki_crls.specs.Crl.{KeptCrl}
use Rattle.rpki_crls.proofs.Crls.Exact.{crl-part}
use Rattle.rpki_crls.proofs.crl.Crl.take_from.Goals as goal

pub returns-clause-decodes : goal.returns-clause-decodes
returns-clause-decodes c =
    decodes-next crl-part (λ (k : KeptCrl). k.list) c.args.cons.now c.take_crl.result
    c.take_crl.new.cons c.holds_octets.ensures c.take_crl.ensures.reads
