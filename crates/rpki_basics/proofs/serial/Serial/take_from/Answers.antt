use Rattle.rpki_der.proofs.Form.Decoders.{decodes-next}
use Rattle.rpki_der.proofs.Form.Kinds.{u160-part}
use Rattle.rpki_basics.proofs.serial.Serial.take_from.Goals as goal

pub returns-clause-decodes : goal.returns-clause-decodes
returns-clause-decodes c =
    decodes-next u160-part (λ s. s) c.args.cons.now c.take_serial.result c.take_serial.new.cons
    c.holds_octets.ensures c.take_serial.ensures.reads
