use Rattle.std.proofs.Common.{arith}
use Rattle.rpki_der.proofs.Reading.Exact.{IsBytes-of}
use Rattle.rpki_der.proofs.laws.slices_hold_octets.Goals as goal

pub returns-clause-octets : goal.returns-clause-octets
returns-clause-octets c = IsBytes-of c.args.octets.now (λ i. omega (arith, c.type_inv.octets i))
