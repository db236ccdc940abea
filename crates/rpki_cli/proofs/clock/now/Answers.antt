-- A clock tells no second before 1970.
use Rattle.rpki_cli.proofs.Clocks.{from-1970, not-negative}
use Rattle.rpki_cli.proofs.clock.now.Goals as goal

pub returns-in-Ok : goal.returns-in-Ok
returns-in-Ok g c =
    from-1970 c.moment_of.result _
    (not-negative c.in-Ok.second c.as_secs.result c.in-Ok.ensures.0 c.in-Ok.ensures.1)
    c.moment_of.ensures
