use Rattle.std.proofs.Common.{refl}
use Rattle.rpki_routes.specs.Roa.Written.{roa_octets}
use Rattle.rpki_routes.proofs.Origins.Facts.{roa-facts}
use Rattle.rpki_routes.proofs.Origins.Written.{roa-written}
use Rattle.rpki_routes.proofs.laws.roas_are_written.Goals as goal

pub returns-clause-written : goal.returns-clause-written
returns-clause-written c = roa-written

pub returns-clause-read : goal.returns-clause-read
returns-clause-read c = λ r rest is short. (roa_octets r, refl, roa-written r is short)

pub returns-clause-found : goal.returns-clause-found
returns-clause-found c = roa-facts
