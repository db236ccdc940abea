use Rattle.std.proofs.Common.{◌∙◌}
use Rattle.rpki_basics.proofs.Serials.Unique.{same-number}
use Rattle.rpki_basics.proofs.serial.SerialPartialEq.eq.Goals as goal

pub returns : goal.returns
returns c = rw (← c.self.view_is, ← c.other.view_is)
    (c.eq.ensures ∙ same-number c.self.inside.octets c.other.inside.octets c.self.invariant
    c.other.invariant)
