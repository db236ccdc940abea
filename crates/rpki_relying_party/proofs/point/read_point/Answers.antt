use Rattle.std.proofs.Common.{Err, subst}
use Rattle.rpki_relying_party.specs.Costs.{PointCosts, PointStarts}
use Rattle.rpki_relying_party.specs.Lacks.{WhyNoPoint}
use Rattle.rpki_relying_party.specs.Outcome.{IsOutcome, AppendsBoth}
use Rattle.rpki_relying_party.specs.Passes.{setting}
use Rattle.rpki_relying_party.specs.Tells.{PointTells}
use Rattle.rpki_relying_party.specs.declared.cause.Stop.{Stop}
use Rattle.rpki_relying_party.proofs.Pointing.{point-told, point-refused, point-cut}
use Rattle.rpki_relying_party.proofs.point.read_point.Goals as goal

pub returns-in-Ok : goal.returns-in-Ok
returns-in-Ok g c =
    let s = setting g.R.Repository.finds g.C.Crypto.digest_of g.C.Crypto.is_signed
    c.args.pass.now in
    let place = c.args.place.now in
    point-told s place c.args.folder.now c.args.uri.now c.requires.folder c.requires.manifest
    c.args.room c.process_point.new.room c.new-said.result.items
    c.process_point.new.findings.said.items c.new-children.result.items
    c.process_point.new.findings.children.items c.new-said.ensures.items
    c.new-children.ensures.items c.in-Ok.ensures c.saturating_sub-cost.result
    c.saturating_sub-cost.ensures

pub returns-in-Err-Refused : goal.returns-in-Err-Refused
returns-in-Err-Refused g c =
    let s = setting g.R.Repository.finds g.C.Crypto.digest_of g.C.Crypto.is_signed
    c.args.pass.now in
    let place = c.args.place.now in
    point-refused s place c.args.folder.now c.args.uri.now c.requires.folder c.requires.manifest
    c.args.room c.process_point.new.room c.in-Err-Refused.cause
    (subst (λ (x : Stop). IsOutcome {T = Unit {0}}
    (PointStarts s place.ca c.args.folder.now c.args.uri.now)
    (λ _ n. AppendsBoth (PointTells s place c.args.folder.now c.args.uri.now)
    c.new-said.result.items c.process_point.new.findings.said.items
    c.new-children.result.items c.process_point.new.findings.children.items
    × PointCosts s place.ca c.args.folder.now c.args.uri.now n)
    (λ cause n. WhyNoPoint s place.ca c.args.folder.now c.args.uri.now cause
    × PointCosts s place.ca c.args.folder.now c.args.uri.now n) c.args.room
    c.process_point.new.room (Err x)) c.in-Err-Refused.field-0-is c.in-Err-Refused.ensures)
    c.saturating_sub.result c.saturating_sub.ensures c.refuse_point.result
    c.refuse_point.ensures

pub returns-in-Err-Room : goal.returns-in-Err-Room
returns-in-Err-Room g c =
    let s = setting g.R.Repository.finds g.C.Crypto.digest_of g.C.Crypto.is_signed
    c.args.pass.now in
    let place = c.args.place.now in
    point-cut s place c.args.folder.now c.args.uri.now c.requires.folder c.requires.manifest
    c.args.room c.process_point.new.room
    (subst (λ (x : Stop). IsOutcome {T = Unit {0}}
    (PointStarts s place.ca c.args.folder.now c.args.uri.now)
    (λ _ n. AppendsBoth (PointTells s place c.args.folder.now c.args.uri.now)
    c.new-said.result.items c.process_point.new.findings.said.items
    c.new-children.result.items c.process_point.new.findings.children.items
    × PointCosts s place.ca c.args.folder.now c.args.uri.now n)
    (λ cause n. WhyNoPoint s place.ca c.args.folder.now c.args.uri.now cause
    × PointCosts s place.ca c.args.folder.now c.args.uri.now n) c.args.room
    c.process_point.new.room (Err x)) c.in-Err-Room.field-0-is c.in-Err-Room.ensures)
