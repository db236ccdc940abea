-- One more is put, and in the end all are.
use Rattle.std.proofs.Common.{List, length, map, ap, ◌∙◌}
use Rattle.std.proofs.lemmas.List.{length-map}
use Rattle.rpki_routes.specs.Roa.{addresses, origin_of}
use Rattle.rpki_routes.specs.declared.roa.address.RouteOrigin.{RouteOrigin}
use Rattle.rpki_relying_party.specs.Tells.{origin_said, origins_said, payload_said}
use Rattle.rpki_relying_party.specs.declared.payload.Origin.{Origin}
use Rattle.rpki_relying_party.specs.declared.payload.Payload.TheVariants as payloads
use Rattle.rpki_relying_party.proofs.Judging.{none-paid, one-paid, not-paid, all-paid}
use Rattle.rpki_relying_party.proofs.files.put_origins.Goals as goal

pub loop-origin-init : goal.loop-origin-init
loop-origin-init c =
    let says = origin_said c.args.until c.args.uri.now in
    let roa = c.args.roa.now in
    let e = c.into_iter-origin-iterator.ensures.into_iter_gives
    ∙ c.iter_origins-origin-items.ensures in
    none-paid says (origins_said c.args.until c.args.uri.now roa) (length (addresses roa))
    c.args.said.now.items c.args.room.now c.into_iter-origin-iterator.result
    (ap (λ (l : List RouteOrigin). map says l) e)
    (ap (λ (l : List RouteOrigin). length l) e ∙ length-map (addresses roa) (origin_of roa.as_id))

pub loop-origin-preserved : goal.loop-origin-preserved
loop-origin-preserved c =
    let roa = c.args.roa.now in
    one-paid (origin_said c.args.until c.args.uri.now)
    (origins_said c.args.until c.args.uri.now roa) (length (addresses roa))
    c.args.said.now.items c.args.room.now c.in-Some.origin c.next.new.self
    c.loop-origin.origin-iterator
    (payload_said c.args.until c.args.uri.now (payloads.Origin c.origin_of.result))
    c.loop-origin.said.items c.put_payload.new.said.items c.loop-origin.room c.put_payload.new.room
    c.in-Some.ensures.steps c.loop-origin.invariant
    (ap (λ (o : Origin). payload_said c.args.until c.args.uri.now (payloads.Origin o))
    c.origin_of.ensures) c.in_default.ensures

pub returns-in-Err : goal.returns-in-Err
returns-in-Err c =
    let roa = c.args.roa.now in
    not-paid (origin_said c.args.until c.args.uri.now)
    (origins_said c.args.until c.args.uri.now roa) (length (addresses roa))
    c.args.said.now.items c.args.room.now c.in-Some.origin c.next.new.self
    c.loop-origin.origin-iterator
    (payload_said c.args.until c.args.uri.now (payloads.Origin c.origin_of.result))
    c.loop-origin.said.items c.put_payload.new.said.items c.loop-origin.room c.put_payload.new.room
    c.in-Some.ensures.steps c.loop-origin.invariant c.in-Err.stop c.in-Err.ensures

pub returns : goal.returns
returns c =
    let roa = c.args.roa.now in
    all-paid (origin_said c.args.until c.args.uri.now)
    (origins_said c.args.until c.args.uri.now roa) (length (addresses roa))
    c.args.said.now.items c.args.room.now c.loop-origin.origin-iterator c.loop-origin.said.items
    c.loop-origin.room c.in-None.ensures.steps.0 c.loop-origin.invariant
