use Rattle.rpki_payloads.specs.Formats.Rows.{providers_of_assertion}
use Rattle.rpki_payloads.proofs.Rowed.{one-more}
use Rattle.rpki_payloads.proofs.formats.rows.push_added_providers.Goals as goal

pub loop-assertion-preserved : goal.loop-assertion-preserved
loop-assertion-preserved c =
    one-more providers_of_assertion c.deref-assertion-items.result.now
    c.loop-assertion.assertion-index c.assertion-item.result c.args.rows.now.items _ _
    c.loop-assertion-test.true c.assertion-item.is c.loop-assertion.invariant
    c.in_ok-push_asserted.ensures
