use Rattle.std.proofs.Common.{◌≡◌, ◌++◌, map, take}
use Rattle.rpki_payloads.specs.Formats.Rows.{asserted_provider}
use Rattle.rpki_payloads.specs.Slurm.{provider_of}
use Rattle.rpki_payloads.proofs.formats.rows.push_asserted.Given as goal

abbrev pub invariant-loop-provider : goal.invariant-loop-provider
invariant-loop-provider l = l.rows.items ≡ l.fn.rows.items
    ++ map asserted_provider (map (provider_of l.customer)
    (take l.provider-index l.provider-items))
