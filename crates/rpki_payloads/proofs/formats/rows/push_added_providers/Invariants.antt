use Rattle.std.proofs.Common.{◌≡◌, ◌++◌, take}
use Rattle.std.specs.List.{flat_map}
use Rattle.rpki_payloads.specs.Formats.Rows.{providers_of_assertion}
use Rattle.rpki_payloads.proofs.formats.rows.push_added_providers.Given as goal

abbrev pub invariant-loop-assertion : goal.invariant-loop-assertion
invariant-loop-assertion l = l.rows.items ≡ l.fn.rows.items
    ++ flat_map providers_of_assertion (take l.assertion-index l.assertion-items)
