use Rattle.rpki_der.proofs.Form.Decoders.{decodes-next}
use Rattle.rpki_extensions.proofs.Uris.Exact.{authority-access-part}
use Rattle.rpki_extensions.proofs.access.take_authority_info_access.Goals as goal

pub returns-clause-decodes : goal.returns-clause-decodes
returns-clause-decodes c =
    decodes-next authority-access-part (λ x. x) c.args.cons.now c.take_authority.result
    c.take_authority.new.cons c.holds_octets.ensures c.take_authority.ensures.reads
