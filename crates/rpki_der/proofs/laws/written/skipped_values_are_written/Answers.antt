use Rattle.std.proofs.Common.{add-one}
use Rattle.rpki_der.specs.Write.Written.{value_octets}
use Rattle.rpki_der.proofs.Writing.Values.{skipped-primitive, skipped-constructed, skipped-read}
use Rattle.rpki_der.proofs.laws.written.skipped_values_are_written.Goals as goal

pub returns-clause-primitive : goal.returns-clause-primitive
returns-clause-primitive c = skipped-primitive

pub returns-clause-constructed : goal.returns-clause-constructed
returns-clause-constructed c =
    λ depth tag c is list short. rw add-one (skipped-constructed depth tag c is list short)

pub returns-clause-read : goal.returns-clause-read
returns-clause-read c =
    λ mode depth tag c rest h. skipped-read mode depth (value_octets tag c) rest h
