use Rattle.rpki_der.specs.Tags.{NULL}
use Rattle.rpki_der.proofs.Reading.Within.{opened-shorter}
use Rattle.rpki_der.proofs.read.constructed.Constructed.skip_opt_null.Goals as goal

pub returns-then-is_empty-clause-shorter : goal.returns-then-is_empty-clause-shorter
returns-then-is_empty-clause-shorter c =
    rw (← c.in_ok-check.ensures.ok.1)
    (opened-shorter NULL (λ s. s) _ _ _ c.in_ok-contents.ensures)
