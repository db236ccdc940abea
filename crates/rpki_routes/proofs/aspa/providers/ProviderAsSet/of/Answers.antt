use Rattle.std.proofs.Common.{◌≡◌, List, ℕ, All, sym, subst, ◌∙◌}
use Rattle.std.proofs.lemmas.Result.{err_from_is_err_and}
use Rattle.rpki_basics.specs.declared.limits.ProviderLimit.TheVariants.{Wide}
use Rattle.rpki_der.specs.Read.Parse.{u32_at}
use Rattle.rpki_lists.specs.Entries.{HoldEntries, entries_of}
use Rattle.rpki_resources.specs.As.{IsAsn}
use Rattle.rpki_routes.specs.Aspa.{IsProviderSet}
use Rattle.rpki_routes.specs.Aspa.Written.{providers_octets}
use Rattle.rpki_routes.proofs.Attestations.Built.{few-octets, providers-read}
use Rattle.rpki_lists.proofs.Listed.{entries-held, only-memory}
use Rattle.rpki_routes.proofs.aspa.providers.ProviderAsSet.of.Goals as goal

-- octets that are written of these providers, handed on as others, hold the providers
held : (octets ps qs : List ℕ) → octets ≡ providers_octets qs → qs ≡ ps → All IsAsn ps
    → HoldEntries u32_at octets × (entries_of u32_at octets ≡ ps)
held octets ps qs written same numbers =
    subst (λ (l : List ℕ). HoldEntries u32_at octets × (entries_of u32_at octets ≡ l)) same
    (entries-held u32_at octets (providers_octets qs) qs written
    (providers-read qs (subst (All IsAsn) (sym same) numbers)))

pub returns-in_err-octets-clause-refused : goal.returns-in_err-octets-clause-refused
returns-in_err-octets-clause-refused c =
    let p = err_from_is_err_and c.from_residual.result c.from_residual.ensures.1 in
    let h : IsProviderSet Wide c.each.result.0.now =
    subst (IsProviderSet Wide) (sym c.each.ensures) c.requires in
    rw (p.1, p.2) (only-memory _ _
    (λ f. f ((λ k d l. tt), few-octets Wide c.each.result.0.now h))
    c.in_err-octets.ensures.refused)

pub list_of-requires : goal.list_of-requires
list_of-requires c =
    (held c.in_ok-octets.octets.items c.args.providers.now c.each.result.0.now
    c.in_ok-octets.ensures.written c.each.ensures c.requires.numbers).0

pub invariant_of-result : goal.invariant_of-result
invariant_of-result c =
    let same : c.in_ok-numbers.numbers ≡ c.args.providers.now =
    c.in_ok-numbers.ensures ∙ (held c.in_ok-octets.octets.items c.args.providers.now
    c.each.result.0.now c.in_ok-octets.ensures.written c.each.ensures c.requires.numbers).1 in
    subst (IsProviderSet Wide) (sym same) c.requires

pub returns-clause-set : goal.returns-clause-set
returns-clause-set c =
    c.in_ok-numbers.ensures ∙ (held c.in_ok-octets.octets.items c.args.providers.now
    c.each.result.0.now c.in_ok-octets.ensures.written c.each.ensures c.requires.numbers).1
