use Rattle.std.proofs.Common.{subst}
use Rattle.rpki_relying_party.specs.Passes.{setting}
use Rattle.rpki_relying_party.specs.Reading.{IsPointReading}
use Rattle.rpki_relying_party.specs.declared.point.PointReading.{PointReading}
use Rattle.rpki_relying_party.proofs.Pointing.{reads-told, reads-refused}
use Rattle.rpki_relying_party.proofs.point.read_place.Goals as goal

pub returns-in-Ok-Told : goal.returns-in-Ok-Told
returns-in-Ok-Told g c =
    let s = setting g.R.Repository.finds g.C.Crypto.digest_of g.C.Crypto.is_signed
    c.args.pass.now in
    let place = c.args.place.now in
    reads-told s place c.args.room c.in-Ok-Told.told
    (subst (λ (r : PointReading). IsPointReading s place c.args.room r) c.in-Ok-Told.field-0-is
    c.in-Ok-Told.ensures)

pub returns-in-Ok-Cut : goal.returns-in-Ok-Cut
returns-in-Ok-Cut g c =
    let s = setting g.R.Repository.finds g.C.Crypto.digest_of g.C.Crypto.is_signed
    c.args.pass.now in
    let place = c.args.place.now in
    subst (λ (r : PointReading). IsPointReading s place c.args.room r) c.in-Ok-Cut.field-0-is
    c.in-Ok-Cut.ensures

pub returns-in-Ok : goal.returns-in-Ok
returns-in-Ok g c =
    let s = setting g.R.Repository.finds g.C.Crypto.digest_of g.C.Crypto.is_signed
    c.args.pass.now in
    let place = c.args.place.now in
    reads-refused s place c.args.room c.in-Ok-Refused.refusal c.in-Ok-Refused.cost
    (subst (λ (r : PointReading). IsPointReading s place c.args.room r)
    c.in-Ok-Refused.field-0-is c.in-Ok-Refused.ensures)
    c.in-Ok.told c.in-Ok.ensures.said c.in-Ok.ensures.children c.in-Ok.ensures.costs
