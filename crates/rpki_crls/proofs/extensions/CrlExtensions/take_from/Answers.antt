use Rattle.rpki_der.proofs.Form.Decoders.{decodes-next}
use Rattle.rpki_crls.proofs.ListExtensions.Exact.{crl-extensions-part}
use Rattle.rpki_crls.proofs.extensions.CrlExtensions.take_from.Goals as goal

pub returns-clause-decodes : goal.returns-clause-decodes
returns-clause-decodes c =
    decodes-next crl-extensions-part (λ x. x) c.args.cons.now c.take_extensions.result
    c.take_extensions.new.cons c.holds_octets.ensures c.take_extensions.ensures.reads
