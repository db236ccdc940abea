use Rattle.std.proofs.Common.{[], ◌∷◌, refl}
use Rattle.rpki_relying_party.specs.Tells.{child_of}
use Rattle.rpki_relying_party.proofs.Outcomes.{puts-of-room}
use Rattle.rpki_relying_party.proofs.files.put_child.Goals as goal

pub returns-in-Err : goal.returns-in-Err
returns-in-Err c = puts-of-room c.args.cost
    (child_of c.args.above.now.until c.args.above.now.manifest.now c.args.ca ∷ [])
    c.args.children.now.items c.args.children.now.items c.args.room.now c.spend.new.room
    c.in-Err.stop c.in-Err.ensures

pub returns-in-Ok : goal.returns-in-Ok
returns-in-Ok c = (c.args.cost, (c.in-Ok.ensures, refl), c.in_default.ensures)
