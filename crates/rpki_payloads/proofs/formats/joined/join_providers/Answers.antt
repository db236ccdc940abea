use Rattle.std.proofs.Common.{None, Option, List, ap, arith, fold, length, sym, ◌∙◌}
use Rattle.std.specs.BTreeMap.{get, is_at}
use Rattle.std.specs.Map.{lookup}
use Rattle.rpki_relying_party.specs.declared.payload.Provider.{Provider}
use Rattle.std.specs.Vec.Iter.{into_iter_items}
use Rattle.std.proofs.lemmas.List.{nil_from_length}
use Rattle.rpki_relying_party.specs.Orders.{provider_order}
use Rattle.rpki_payloads.specs.Formats.Joined.{kept_after}
use Rattle.rpki_payloads.specs.Formats.Row.{ProviderRow, provider_payload, provider_until}
use Rattle.rpki_payloads.proofs.Joined.{kept-more}
use Rattle.rpki_payloads.proofs.Once.{provider-exact, provider-total}
use Rattle.rpki_payloads.proofs.formats.joined.join_providers.Goals as goal

pub loop-row-init : goal.loop-row-init
loop-row-init c =
    let gives = c.into_iter-row-iterator.ensures.into_iter_gives in
    let same = ap (λ (l : List ProviderRow). length l) (gives.0) in (
      omega (arith, gives.1, c.args.said.ok.0, same),
      λ k. ap (λ (b : Option ProviderRow). fold (kept_after provider_order provider_payload provider_until k) b
          (into_iter_items c.into_iter-row-iterator.result))
          (ap (λ (es : List (Provider × ProviderRow)). lookup (is_at (provider_order k)) es)
          c.new-joined.ensures.empty)
          ∙ ap (λ (l : List ProviderRow). fold (kept_after provider_order provider_payload provider_until k)
          None l) gives.0,
    )

pub loop-row-preserved : goal.loop-row-preserved
loop-row-preserved c =
    let i = c.loop-row.invariant in
    let steps = c.in-Some.ensures.steps in
    let short = ap (λ (l : List ProviderRow). length l) (steps.0) in (
      omega (arith, steps.1, short, i.0),
      kept-more provider-total provider-exact provider_payload provider_until c.in-Some.row
          (into_iter_items c.next.new.self) c.loop-row.joined c.keep_provider.new.joined
          c.args.said.items c.in_ok-keep_provider.ensures
          (λ k. ap (λ (l : List ProviderRow). fold (kept_after provider_order provider_payload provider_until k)
          (get provider_order c.loop-row.joined k) l) (sym steps.0) ∙ i.1 k),
    )

pub returns : goal.returns
returns c =
    let i = c.loop-row.invariant in
    let none = nil_from_length (into_iter_items c.loop-row.row-iterator)
    (sym i.0 ∙ c.in-None.ensures.steps.0) in
    λ k. ap (λ (l : List ProviderRow). fold (kept_after provider_order provider_payload provider_until k)
    (get provider_order c.loop-row.joined k) l) (sym none) ∙ i.1 k
