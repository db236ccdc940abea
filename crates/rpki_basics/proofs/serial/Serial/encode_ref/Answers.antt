use Rattle.std.proofs.Common.{subst}
use Rattle.rpki_der.specs.declared.mode.Mode.TheVariants.{Der}
use Rattle.rpki_basics.specs.Serial.{SerialForm, serial_octets}
use Rattle.rpki_basics.proofs.Serials.Written.{digits-written}
use Rattle.rpki_basics.proofs.serial.Serial.encode_ref.Goals as goal

pub returns-clause-written : goal.returns-clause-written
returns-clause-written c =
    subst (λ n. SerialForm Der (serial_octets n) n) c.self.view_is
    (digits-written c.self.inside.octets c.self.invariant)
