use Rattle.rpki_der.proofs.Form.Decoders.{decodes-next}
use Rattle.rpki_basics.proofs.Times.Read.{time-part}
use Rattle.rpki_basics.proofs.time.Time.take_from.Goals as goal

pub returns-clause-decodes : goal.returns-clause-decodes
returns-clause-decodes c =
    decodes-next time-part (λ t. t) c.args.cons.now c.take_time.result c.take_time.new.cons
    c.holds_octets.ensures c.take_time.ensures.reads
