use Rattle.std.proofs.Common.{ℕ, List, Vec, Global}
use Rattle.rpki_der.proofs.Form.Decoders.{decodes-next}
use Rattle.rpki_extensions.proofs.Values.{purposes-part}
use Rattle.rpki_extensions.proofs.purposes.take_purposes.Goals as goal

pub returns-clause-decodes : goal.returns-clause-decodes
returns-clause-decodes c =
    decodes-next purposes-part (λ (v : Vec (List ℕ) Global). v.items)
    c.args.cons.now c.take_some.result c.take_some.new.cons
    c.holds_octets.ensures c.take_some.ensures.reads
