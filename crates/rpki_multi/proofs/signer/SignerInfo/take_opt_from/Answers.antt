use Rattle.std.proofs.Common.{Option}
use Rattle.std.specs.Prelude.{option_map}
use Rattle.rpki_der.specs.Tags.{SEQUENCE}
use Rattle.rpki_der.proofs.Form.Decoders.{decodes-if-next}
use Rattle.rpki_sigobj.specs.SignerInfo.{KeptSigner}
use Rattle.rpki_sigobj.proofs.Objects.Exact.{signer-info-part}
use Rattle.rpki_multi.specs.Signer.{id_rta}
use Rattle.rpki_multi.proofs.signer.SignerInfo.take_opt_from.Goals as goal

pub returns-clause-decodes : goal.returns-clause-decodes
returns-clause-decodes c =
    decodes-if-next SEQUENCE (signer-info-part id_rta)
    (λ (o : Option KeptSigner). option_map (λ (k : KeptSigner). k.signer) o)
    c.args.cons.now c.take_opt_signer.result c.take_opt_signer.new.cons c.holds_octets.ensures
    c.take_opt_signer.ensures.reads
