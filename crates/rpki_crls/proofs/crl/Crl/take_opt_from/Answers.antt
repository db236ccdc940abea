use Rattle.std.proofs.Common.{Option}
use Rattle.std.specs.Prelude.{option_map}
use Rattle.rpki_der.specs.Tags.{SEQUENCE}
use Rattle.rpki_der.proofs.Form.Decoders.{decodes-if-next}
use Rattle.rpki_crls.specs.Crl.{KeptCrl}
use Rattle.rpki_crls.proofs.Crls.Exact.{crl-part}
use Rattle.rpki_crls.proofs.crl.Crl.take_opt_from.Goals as goal

pub returns-clause-decodes : goal.returns-clause-decodes
returns-clause-decodes c =
    decodes-if-next SEQUENCE crl-part
    (λ (o : Option KeptCrl). option_map (λ (k : KeptCrl). k.list) o)
    c.args.cons.now c.take_opt_crl.result c.take_opt_crl.new.cons c.holds_octets.ensures
    c.take_opt_crl.ensures.reads
