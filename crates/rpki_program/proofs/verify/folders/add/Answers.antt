-- The digest is there now, with each that was.
use Rattle.rpki_relying_party.proofs.Keys.{is-put}
use Rattle.rpki_program.proofs.verify.folders.add.Goals as goal

pub returns : goal.returns
returns c = (is-put c.args.digest c.args.known.now c.insert.new.self c.in_ok-insert.field-0
    c.in_ok-insert.ensures.added c.in_ok-insert.ensures.keys).now
