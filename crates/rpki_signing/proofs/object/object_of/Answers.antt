use Rattle.rpki_signing.specs.Written.{object_contents}
use Rattle.rpki_signing.proofs.Written.{some-object, only-object, only-signed, long-contents}
use Rattle.rpki_signing.proofs.object.object_of.Goals as goal

pub read_back-requires : goal.read_back-requires
read_back-requires g c =
    some-object c.args.p.now c.in-Ok.octets.items c.can_be_written.ensures c.in-Ok.ensures.0
    c.in-Ok.ensures.2.0

pub returns-in-Err-TooLong-clause-refused : goal.returns-in-Err-TooLong-clause-refused
returns-in-Err-TooLong-clause-refused g c =
    long-contents (object_contents c.args.p.now)
    (rw c.in-Err-TooLong.field-0-is at c.in-Err-TooLong.ensures)

pub returns-in-Ok-read_back-clause-signed : goal.returns-in-Ok-read_back-clause-signed
returns-in-Ok-read_back-clause-signed g c =
    only-signed c.args.p.now c.in-Ok.octets.items c.can_be_written.ensures c.in-Ok.ensures.0
    c.in-Ok.ensures.2.0 c.in-Ok-read_back.object.object c.in-Ok-read_back.ensures.object

pub returns-in-Ok-read_back-clause-written : goal.returns-in-Ok-read_back-clause-written
returns-in-Ok-read_back-clause-written g c =
    only-object c.args.p.now c.in-Ok.octets.items c.can_be_written.ensures c.in-Ok.ensures.0
    c.in-Ok.ensures.2.0 c.in-Ok-read_back.object.object c.in-Ok-read_back.ensures.object
