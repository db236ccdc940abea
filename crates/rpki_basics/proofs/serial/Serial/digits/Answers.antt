use Rattle.std.proofs.Common.{ap, sym, ◌∙◌}
use Rattle.rpki_basics.specs.Serial.{digits}
use Rattle.rpki_basics.specs.Digits.{digits_again}
use Rattle.rpki_basics.proofs.serial.Serial.digits.Goals as goal

pub returns : goal.returns
returns c =
    sym (digits_again c.self.inside.octets c.self.invariant) ∙ ap (digits 20) c.self.view_is
