use Rattle.rpki_der.specs.Tags.{INTEGER}
use Rattle.rpki_der.specs.Read.Parse.{unsigned_of}
use Rattle.rpki_der.proofs.Reading.Within.{read-shorter}
use Rattle.rpki_der.proofs.read.constructed.Constructed.take_opt_u8.Goals as goal

pub returns-in_ok-take_u8-clause-shorter : goal.returns-in_ok-take_u8-clause-shorter
returns-in_ok-take_u8-clause-shorter c =
    rw (← c.in_ok-check.ensures.ok.1)
    (read-shorter INTEGER (unsigned_of 1) (λ n. n) _ _ _ c.in_ok-take_u8.ensures.reads)
