-- One more is put, and in the end all are.
use Rattle.std.proofs.Common.{◌≡◌, List, ℕ, length, map, ap, ◌∙◌}
use Rattle.rpki_relying_party.specs.Tells.{provider_said, providers_said, payload_said}
use Rattle.rpki_relying_party.specs.declared.payload.Provider.{Provider}
use Rattle.rpki_relying_party.specs.declared.payload.Payload.TheVariants as payloads
use Rattle.rpki_relying_party.proofs.Judging.{none-paid, one-paid, not-paid, all-paid}
use Rattle.rpki_relying_party.proofs.files.put_providers.Goals as goal

pub loop-provider-init : goal.loop-provider-init
loop-provider-init c =
    let says = provider_said c.args.until c.args.uri.now in
    let aspa = c.args.aspa.now in
    let e : c.into_iter-provider-iterator.result ≡ aspa.providers =
    c.into_iter-provider-iterator.ensures.into_iter_gives ∙ c.iter-provider-items.ensures.providers
    ∙ c.provider_as_set.ensures.value in
    none-paid (says c.customer_as-customer.result)
    (providers_said c.args.until c.args.uri.now aspa) (length aspa.providers)
    c.args.said.now.items c.args.room.now c.into_iter-provider-iterator.result
    (ap (λ (l : List ℕ). map (says c.customer_as-customer.result) l) e
    ∙ ap (λ (n : ℕ). map (says n) aspa.providers) c.customer_as-customer.ensures.value)
    (ap (λ (l : List ℕ). length l) e)

pub loop-provider-preserved : goal.loop-provider-preserved
loop-provider-preserved c =
    let aspa = c.args.aspa.now in
    one-paid (provider_said c.args.until c.args.uri.now c.customer_as-customer.result)
    (providers_said c.args.until c.args.uri.now aspa) (length aspa.providers)
    c.args.said.now.items c.args.room.now c.in-Some.provider c.next.new.self
    c.loop-provider.provider-iterator
    (payload_said c.args.until c.args.uri.now (payloads.Provider c.provider_of.result))
    c.loop-provider.said.items c.put_payload.new.said.items c.loop-provider.room
    c.put_payload.new.room c.in-Some.ensures.steps c.loop-provider.invariant
    (ap (λ (p : Provider). payload_said c.args.until c.args.uri.now (payloads.Provider p))
    c.provider_of.ensures) c.in_default.ensures

pub returns-in-Err : goal.returns-in-Err
returns-in-Err c =
    let aspa = c.args.aspa.now in
    not-paid (provider_said c.args.until c.args.uri.now c.customer_as-customer.result)
    (providers_said c.args.until c.args.uri.now aspa) (length aspa.providers)
    c.args.said.now.items c.args.room.now c.in-Some.provider c.next.new.self
    c.loop-provider.provider-iterator
    (payload_said c.args.until c.args.uri.now (payloads.Provider c.provider_of.result))
    c.loop-provider.said.items c.put_payload.new.said.items c.loop-provider.room
    c.put_payload.new.room c.in-Some.ensures.steps c.loop-provider.invariant c.in-Err.stop
    c.in-Err.ensures

pub returns : goal.returns
returns c =
    let aspa = c.args.aspa.now in
    all-paid (provider_said c.args.until c.args.uri.now c.customer_as-customer.result)
    (providers_said c.args.until c.args.uri.now aspa) (length aspa.providers)
    c.args.said.now.items c.args.room.now c.loop-provider.provider-iterator
    c.loop-provider.said.items c.loop-provider.room c.in-None.ensures.steps.0
    c.loop-provider.invariant
