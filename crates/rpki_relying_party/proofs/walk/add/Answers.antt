-- The key is there now, with each that was.
use Rattle.rpki_relying_party.proofs.Keys.{is-put}
use Rattle.rpki_relying_party.proofs.walk.add.Goals as goal

pub returns : goal.returns
returns c = (is-put c.args.key c.args.keys.now c.insert.new.self c.in_ok-insert.field-0
    c.in_ok-insert.ensures.added c.in_ok-insert.ensures.keys).now
