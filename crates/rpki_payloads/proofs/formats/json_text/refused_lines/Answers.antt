use Rattle.std.proofs.Common.{[]}
use Rattle.rpki_payloads.specs.Formats.Json.{refused_under}
use Rattle.rpki_payloads.proofs.Rowed.{one-more}
use Rattle.rpki_payloads.proofs.formats.json_text.refused_lines.Goals as goal

pub loop-one-preserved : goal.loop-one-preserved
loop-one-preserved c =
    one-more refused_under c.args.found.now c.loop-one.one-index c.one-item.result [] _ _
    c.loop-one-test.true c.one-item.is c.loop-one.invariant c.in_ok-push_refusals_of.ensures
