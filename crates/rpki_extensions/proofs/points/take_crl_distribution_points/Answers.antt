use Rattle.rpki_der.proofs.Form.Decoders.{decodes-next}
use Rattle.rpki_extensions.proofs.Uris.Exact.{points-part}
use Rattle.rpki_extensions.proofs.points.take_crl_distribution_points.Goals as goal

pub returns-clause-decodes : goal.returns-clause-decodes
returns-clause-decodes c =
    decodes-next points-part (λ x. x) c.args.cons.now c.take_points.result
    c.take_points.new.cons c.holds_octets.ensures c.take_points.ensures.reads
