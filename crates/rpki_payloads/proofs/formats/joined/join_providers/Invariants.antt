use Rattle.std.proofs.Common.{◌≡◌, fold, length}
use Rattle.std.specs.BTreeMap.{get}
use Rattle.std.specs.Vec.Iter.{into_iter_items, into_iter_len}
use Rattle.rpki_relying_party.specs.Orders.{provider_order}
use Rattle.rpki_relying_party.specs.declared.payload.Provider.{Provider}
use Rattle.rpki_payloads.specs.Formats.Joined.{kept_after, kept_of}
use Rattle.rpki_payloads.specs.Formats.Row.{provider_payload, provider_until}
use Rattle.rpki_payloads.proofs.formats.joined.join_providers.Given as goal

-- what is kept, and the rows that are still to come
abbrev pub invariant-loop-row : goal.invariant-loop-row
invariant-loop-row l =
    (into_iter_len l.row-iterator ≡ length (into_iter_items l.row-iterator))
    × ((k : Provider) → fold (kept_after provider_order provider_payload provider_until k)
    (get provider_order l.joined k) (into_iter_items l.row-iterator)
    ≡ kept_of provider_order provider_payload provider_until k l.fn.said.items)
