use Rattle.std.proofs.Common.{inr, refl}
use Rattle.rpki_sigobj.specs.Object.{mode_of}
use Rattle.rpki_check.proofs.Naming.{asked, none-asked}
use Rattle.rpki_check.proofs.kinds.asked_for.Goals as goal

pub returns-then-number-eq0 : goal.returns-then-number-eq0
returns-then-number-eq0 c =
    asked (mode_of c.args.strict) c.args.number c.args.octets.now c.named.result
    c.if-number-eq0.true c.named.ensures

pub returns-in-None : goal.returns-in-None
returns-in-None c = inr (
  refl,
  none-asked (mode_of c.args.strict) c.args.number c.args.octets.now c.if-number-eq0.false
      c.if-number-eq-ATTESTATION.false c.in-None.ensures,
)
