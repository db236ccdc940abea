use Rattle.rpki_der.specs.Tags.{INTEGER}
use Rattle.rpki_der.specs.Read.Parse.{unsigned_of, u32_at}
use Rattle.rpki_der.proofs.Reading.Many.{primitive-shorter}
use Rattle.rpki_der.proofs.Reading.Calls.{reads-ok}
use Rattle.rpki_der.proofs.read.constructed.Constructed.take_opt_u32.Goals as goal

pub returns-in_ok-take_u32-clause-shorter : goal.returns-in_ok-take_u32-clause-shorter
returns-in_ok-take_u32-clause-shorter c =
    let r = reads-ok (λ n. n)
    u32_at c.check.new.self c.in_ok-take_u32.field-0 c.take_u32.new.self
    c.in_ok-take_u32.ensures.reads in
    rw (← c.in_ok-check.ensures.ok.1) (primitive-shorter INTEGER (unsigned_of 4) _ _ _ _ r.found)
