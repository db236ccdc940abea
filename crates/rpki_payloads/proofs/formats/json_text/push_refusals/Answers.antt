use Rattle.std.proofs.Common.{rules}
use Rattle.rpki_payloads.specs.Formats.Json.{refused_item}
use Rattle.rpki_payloads.proofs.formats.json_text.push_refusals.Goals as goal

pub returns : goal.returns
returns c = rw c.iter.ensures.rest at
    (c.push_list.ensures refused_item (λ item text result after called. search rules))
