use Rattle.std.proofs.Common.{refl}
use Rattle.rpki_validation.proofs.attestation.check_supplied.Goals as goal

pub returns : goal.returns
returns c = record {
  given = c.args.supplies.now;
  same = refl;
  first = c.rta.ensures.first;
  exact = c.rta.ensures.exact;
}
