use Rattle.std.proofs.Common.{◌≡◌, [], refl, arith}
use Rattle.rpki_der.proofs.Writing.Lengths.{value-written}
use Rattle.rpki_der.proofs.Writing.Leaves.{within-unique}
use Rattle.rpki_der.proofs.Reading.Scan.{tag-sound}
use Rattle.rpki_der.proofs.Writing.Values.{null-read}
use Rattle.rpki_der.proofs.laws.written.nulls_are_written.Goals as goal

pub returns-clause-written : goal.returns-clause-written
returns-clause-written c = ([], value-written 5 [] (tag-sound 5 refl) (omega arith), refl)

pub returns-clause-unique : goal.returns-clause-unique
returns-clause-unique c = λ o bytes h. within-unique 5 (λ c. c ≡ []) o [] bytes (λ c e. e) h

pub returns-clause-read : goal.returns-clause-read
returns-clause-read c = null-read
