use Rattle.std.proofs.Common.{◌≡◌, ◌++◌, not, map}
use Rattle.std.specs.List.{filter}
use Rattle.rpki_payloads.specs.Formats.Row.{ProviderRow}
use Rattle.rpki_payloads.specs.Formats.Rows.{provider_row, kept_providers}
use Rattle.rpki_payloads.specs.Slurm.{drops_provider}
use Rattle.rpki_payloads.proofs.formats.rows.push_kept_providers.Given as goal

-- the rows, and those of the providers that are still to come
abbrev pub invariant-loop-provider : goal.invariant-loop-provider
invariant-loop-provider l =
    l.rows.items ++ filter (λ (r : ProviderRow). not (drops_provider l.exceptions r.provider))
    (map (provider_row l.one.name) l.provider-iterator)
    ≡ l.fn.rows.items ++ kept_providers l.exceptions l.one
