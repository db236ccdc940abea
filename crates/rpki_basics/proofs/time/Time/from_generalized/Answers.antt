use Rattle.rpki_basics.proofs.Times.Read.{time-of}
use Rattle.rpki_basics.proofs.time.Time.from_generalized.Goals as goal

pub returns : goal.returns
returns c = time-of c.args.text.now c.generalized_time.result c.generalized_time.ensures
