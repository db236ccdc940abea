use Rattle.rpki_der.proofs.Reading.Within.{opened-shorter}
use Rattle.rpki_der.proofs.read.constructed.Constructed.take_opt_primitive_if.Goals as goal

pub returns-clause-shorter : goal.returns-clause-shorter
returns-clause-shorter c =
    rw (← c.in_ok-check.ensures.ok.1, c.in_ok-keep.ensures.ok.1)
    (opened-shorter c.args.tag.octet (λ s. s) _ _ _ c.in_ok-contents.ensures)
