use Rattle.std.proofs.Common.{[], ◌∷◌, refl}
use Rattle.rpki_relying_party.specs.Costs.{payload_cost}
use Rattle.rpki_relying_party.specs.Tells.{payload_said}
use Rattle.rpki_relying_party.proofs.Outcomes.{puts-of-room}
use Rattle.rpki_relying_party.proofs.files.put_payload.Goals as goal

pub returns-in-Err : goal.returns-in-Err
returns-in-Err c = puts-of-room payload_cost
    (payload_said c.args.until c.args.uri.now c.args.payload ∷ []) c.args.said.now.items
    c.args.said.now.items c.args.room.now c.spend.new.room c.in-Err.stop c.in-Err.ensures

pub returns-in-Ok : goal.returns-in-Ok
returns-in-Ok c = (payload_cost, (c.in-Ok.ensures, refl), c.in_default.ensures)
