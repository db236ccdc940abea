use Rattle.std.proofs.Common.{refl, arith}
use Rattle.rpki_der.specs.Numbers.{number}
use Rattle.rpki_der.specs.Read.Parse.{unsigned_of}
use Rattle.rpki_der.specs.Write.Written.{integer_contents}
use Rattle.rpki_der.proofs.Reading.Scan.{tag-sound}
use Rattle.rpki_der.proofs.Writing.Numbers.{unsigned-written, length-integer_contents, integer-is}
use Rattle.rpki_der.proofs.Writing.Lengths.{value-written}
use Rattle.rpki_der.proofs.Writing.Values.{integer-unique}
use Rattle.rpki_der.proofs.Writing.Leaves.{primitive-read}
use Rattle.rpki_der.proofs.laws.written.integers_are_written.Goals as goal

pub returns-clause-written : goal.returns-clause-written
returns-clause-written c =
    λ digits h. (
      integer_contents digits,
      value-written 2 (integer_contents digits) (tag-sound 2 refl)
          (omega (arith, length-integer_contents digits)),
      integer-is digits,
    )

pub returns-clause-read : goal.returns-clause-read
returns-clause-read c = λ mode most digits rest h few some.
    primitive-read 2 (unsigned_of most) mode (integer_contents digits) rest (number 0 digits)
    (tag-sound 2 refl) (omega (arith, length-integer_contents digits))
    (unsigned-written most digits few some)

pub returns-clause-unique : goal.returns-clause-unique
returns-clause-unique c = integer-unique
