use Rattle.rpki_relying_party.proofs.Anchoring.{no-cert, has-cert}
use Rattle.rpki_relying_party.proofs.anchor.begins_with_key.Goals as goal

pub returns-in-Err-Malformed : goal.returns-in-Err-Malformed
returns-in-Err-Malformed c =
    no-cert c.args.octets.now c.in_ok-clone.field-0 c.args.tal.now.key c.in_ok-clone.ensures.cases
    (rw c.in-Err-Malformed.field-0-is at c.in-Err-Malformed.ensures.decodes)

pub returns-in-Err-Content : goal.returns-in-Err-Content
returns-in-Err-Content c =
    no-cert c.args.octets.now c.in_ok-clone.field-0 c.args.tal.now.key c.in_ok-clone.ensures.cases
    (rw c.in-Err-Content.field-0-is at c.in-Err-Content.ensures.decodes)

pub returns-in-Ok : goal.returns-in-Ok
returns-in-Ok c =
    has-cert c.args.octets.now c.in_ok-clone.field-0 c.args.tal.now.key c.in_ok-clone.ensures.cases
    c.in-Ok.cert c.has_key-has_key.result c.in-Ok.ensures.decodes c.has_key-has_key.ensures
