use Rattle.std.proofs.Common.{◌≡◌, refl}
use Rattle.rpki_der.specs.Oid.{IsOid}
use Rattle.rpki_der.proofs.Writing.Lengths.{value-written}
use Rattle.rpki_der.proofs.Writing.Leaves.{within-unique}
use Rattle.rpki_der.proofs.Reading.Scan.{tag-sound}
use Rattle.rpki_der.proofs.Writing.Values.{oid-read}
use Rattle.rpki_der.proofs.laws.written.object_identifiers_are_written.Goals as goal

pub returns-clause-written : goal.returns-clause-written
returns-clause-written c =
    λ oid is short. (oid, value-written 6 oid (tag-sound 6 refl) short, (refl, is))

pub returns-clause-unique : goal.returns-clause-unique
returns-clause-unique c =
    λ o oid bytes h. within-unique 6 (λ c. (c ≡ oid) × IsOid oid) o oid bytes (λ c e. e.0) h

pub returns-clause-read : goal.returns-clause-read
returns-clause-read c = oid-read
