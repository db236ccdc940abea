use Rattle.std.proofs.Common.{subst}
use Rattle.rpki_basics.specs.Moment.{IsMoment}
use Rattle.rpki_basics.proofs.Times.Written.{time-written}
use Rattle.rpki_basics.proofs.time.Time.encode_ref.Goals as goal

pub returns-clause-written : goal.returns-clause-written
returns-clause-written c =
    time-written c.args.self.now (subst IsMoment c.self.view_is c.self.invariant)
