use Rattle.std.proofs.Common.{◌∙◌, sym}
use Rattle.rpki_basics.proofs.Serials.Order.{digits-order}
use Rattle.rpki_basics.proofs.serial.SerialOrd.cmp.Goals as goal

pub returns : goal.returns
returns c = rw (← c.self.view_is, ← c.other.view_is)
    (c.cmp.ensures ∙ digits-order c.self.inside.octets c.other.inside.octets
    (c.self.invariant.0 ∙ sym c.other.invariant.0) c.self.invariant.1 c.other.invariant.1)
