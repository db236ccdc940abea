use Rattle.std.proofs.Common.{Ok, Err}
use Rattle.rpki_der.proofs.Form.Decoders.{decodes-next}
use Rattle.rpki_attributes.specs.Attrs.{KeptAttributes}
use Rattle.rpki_attributes.proofs.Lists.Exact.{attrs-part}
use Rattle.rpki_attributes.proofs.Lists.Written.{read-kept}
use Rattle.rpki_attributes.proofs.attrs.take_attrs.Goals as goal

pub invariant_of-result : goal.invariant_of-result
invariant_of-result c =
    rw c.mode-mode.ensures
    (read-kept c.args.others c.args.cons.now c.in-Ok.fields c.take_fields.new.cons
    c.holds_octets.ensures c.in-Ok.ensures.reads)

pub returns-in-Err-clause-decodes : goal.returns-in-Err-clause-decodes
returns-in-Err-clause-decodes c =
    decodes-next (attrs-part c.args.others) (λ (k : KeptAttributes). k.attributes)
    c.args.cons.now (Err c.in-Err.e) c.take_fields.new.cons c.holds_octets.ensures
    c.in-Err.ensures.reads

pub returns-in-Ok-clause-decodes : goal.returns-in-Ok-clause-decodes
returns-in-Ok-clause-decodes c =
    decodes-next (attrs-part c.args.others) (λ (k : KeptAttributes). k.attributes)
    c.args.cons.now (Ok (record { attributes = c.in-Ok.fields; mode = c.mode-mode.result }))
    c.take_fields.new.cons c.holds_octets.ensures c.in-Ok.ensures.reads
