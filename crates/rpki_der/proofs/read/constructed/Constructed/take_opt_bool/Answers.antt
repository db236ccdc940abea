use Rattle.rpki_der.specs.Tags.{BOOLEAN}
use Rattle.rpki_der.proofs.Reading.Within.{opened-shorter}
use Rattle.rpki_der.proofs.read.constructed.Constructed.take_opt_bool.Goals as goal

pub returns-in-Some-clause-shorter : goal.returns-in-Some-clause-shorter
returns-in-Some-clause-shorter c =
    rw (← c.in_ok-check.ensures.ok.1)
    (opened-shorter BOOLEAN (λ s. s) _ _ _ c.in_ok-contents.ensures)
