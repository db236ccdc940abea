use Rattle.std.proofs.Common.{List, subst}
use Rattle.rpki_relying_party.specs.Orders.{origin_order}
use Rattle.rpki_payloads.specs.Formats.Joined.{IsJoin}
use Rattle.rpki_payloads.specs.Formats.Row.{OriginRow, origin_payload, origin_until}
use Rattle.rpki_payloads.specs.Formats.Rows.{IsSaidOrigin, said_origins}
use Rattle.rpki_payloads.proofs.Joined.{are-joined}
use Rattle.rpki_payloads.proofs.Once.{origin-exact, origin-total, origins-said}
use Rattle.rpki_payloads.proofs.formats.rows.origin_rows.Goals as goal

pub returns : goal.returns
returns c =
    are-joined origin-total origin-exact origin_payload origin_until
    (IsSaidOrigin c.args.exceptions.now c.args.found.now)
    (said_origins c.args.exceptions.now c.args.found.now) c.in_ok-rows.rows.items
    c.in_ok-joined.joined
    (origins-said c.args.exceptions.now c.args.found.now)
    (subst (λ (l : List OriginRow). IsJoin origin_order origin_payload origin_until l
    c.in_ok-joined.joined) c.in_ok-said.ensures c.in_ok-joined.ensures)
    c.in_ok-rows.ensures.1 c.in_ok-rows.ensures.0
