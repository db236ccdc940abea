use Rattle.std.proofs.Common.{inr, refl}
use Rattle.rpki_sigobj.specs.Object.{mode_of}
use Rattle.rpki_check.proofs.Naming.{none-named}
use Rattle.rpki_validation.proofs.Steps.{not-true}
use Rattle.rpki_check.proofs.kinds.named.Goals as goal

pub returns-else-is : goal.returns-else-is
returns-else-is c = inr (
  refl,
  none-named (mode_of c.args.strict) c.args.octets.now
      (rw c.in-Ok-None.field-0-is at c.in-Ok-None.ensures)
      (not-true _ c.if-is.false c.in-Ok.ensures),
)
