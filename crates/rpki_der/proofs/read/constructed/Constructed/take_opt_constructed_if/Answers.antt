use Rattle.std.specs.Fn.{FnOnceReturnsAtMut}
use Rattle.rpki_der.proofs.Reading.Within.{opens-shorter}
use Rattle.rpki_der.proofs.read.constructed.Constructed.take_opt_constructed_if.Goals as goal

pub returns-in-Ok-clause-shorter : goal.returns-in-Ok-clause-shorter
returns-in-Ok-clause-shorter g c =
    rw (← c.in_ok-check.ensures.ok.1)
    (opens-shorter c.args.tag.octet
    (λ s r after. FnOnceReturnsAtMut g.F.FnOnce c.args.op s r after) _ _ _ c.in-Ok.ensures)
