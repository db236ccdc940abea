use Rattle.std.proofs.Common.{◌≡◌, ◌<◌, All, refl}
use Rattle.rpki_der.proofs.Writing.Lengths.{value-written}
use Rattle.rpki_der.proofs.Writing.Leaves.{within-unique}
use Rattle.rpki_der.proofs.Reading.Scan.{tag-sound}
use Rattle.rpki_der.proofs.Writing.Values.{ia5-read}
use Rattle.rpki_der.proofs.laws.written.ia5_strings_are_written.Goals as goal

pub returns-clause-written : goal.returns-clause-written
returns-clause-written c =
    λ text is short. (text, value-written 22 text (tag-sound 22 refl) short, (refl, is))

pub returns-clause-unique : goal.returns-clause-unique
returns-clause-unique c =
    λ o text bytes h. within-unique 22 (λ c. (c ≡ text) × All (λ b. b < 128) text) o text bytes
    (λ c e. e.0) h

pub returns-clause-read : goal.returns-clause-read
returns-clause-read c = ia5-read
