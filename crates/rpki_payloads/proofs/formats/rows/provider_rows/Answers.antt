use Rattle.std.proofs.Common.{List, subst}
use Rattle.rpki_relying_party.specs.Orders.{provider_order}
use Rattle.rpki_payloads.specs.Formats.Joined.{IsJoin}
use Rattle.rpki_payloads.specs.Formats.Row.{ProviderRow, provider_payload, provider_until}
use Rattle.rpki_payloads.specs.Formats.Rows.{IsSaidProvider, said_providers}
use Rattle.rpki_payloads.proofs.Joined.{are-joined}
use Rattle.rpki_payloads.proofs.Once.{provider-exact, provider-total, providers-said}
use Rattle.rpki_payloads.proofs.formats.rows.provider_rows.Goals as goal

pub returns : goal.returns
returns c =
    are-joined provider-total provider-exact provider_payload provider_until
    (IsSaidProvider c.args.exceptions.now c.args.found.now)
    (said_providers c.args.exceptions.now c.args.found.now) c.in_ok-rows.rows.items
    c.in_ok-joined.joined
    (providers-said c.args.exceptions.now c.args.found.now)
    (subst (λ (l : List ProviderRow). IsJoin provider_order provider_payload provider_until l
    c.in_ok-joined.joined) c.in_ok-said.ensures c.in_ok-joined.ensures)
    c.in_ok-rows.ensures.1 c.in_ok-rows.ensures.0
