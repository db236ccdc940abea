use Rattle.rpki_der.specs.Numbers.{MAX_DEPTH}
use Rattle.rpki_der.specs.Read.Parse.{skip_at}
use Rattle.rpki_der.proofs.Reading.Calls.{reads-ok}
use Rattle.rpki_der.proofs.Reading.Skips.{skip-takes}
use Rattle.rpki_der.proofs.read.constructed.Constructed.skip_opt_one.Goals as goal

pub returns-clause-shorter : goal.returns-clause-shorter
returns-clause-shorter c =
    let r = reads-ok (λ u. u)
    (skip_at MAX_DEPTH) _ _ _ c.in_ok-skip_one.ensures.reads in
    rw (← c.in_ok-check.ensures.ok.1) ((skip-takes MAX_DEPTH _).at _ _ _ r.found)
