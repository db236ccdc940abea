use Rattle.rpki_der.specs.Tags.{IA5_STRING}
use Rattle.rpki_der.specs.Read.Parse.{ia5_of}
use Rattle.rpki_der.proofs.Reading.Within.{read-shorter}
use Rattle.rpki_der.proofs.read.constructed.Constructed.take_opt_ia5.Goals as goal

pub returns-in_ok-take_ia5-clause-shorter : goal.returns-in_ok-take_ia5-clause-shorter
returns-in_ok-take_ia5-clause-shorter c =
    rw (← c.in_ok-check.ensures.ok.1)
    (read-shorter IA5_STRING ia5_of (λ t. t) _ _ _ c.in_ok-take_ia5.ensures.reads)
