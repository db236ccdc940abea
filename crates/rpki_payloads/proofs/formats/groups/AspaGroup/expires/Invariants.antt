use Rattle.std.proofs.Common.{◌≡◌, fold, None, take}
use Rattle.rpki_payloads.specs.Formats.Fields.{end_seconds}
use Rattle.rpki_payloads.specs.Formats.Groups.{sooner}
use Rattle.rpki_payloads.specs.Formats.Row.{ProviderRow}
use Rattle.rpki_payloads.proofs.formats.groups.AspaGroup.expires.Given as goal

abbrev pub invariant-loop-row : goal.invariant-loop-row
invariant-loop-row l = l.earliest
    ≡ fold (λ e (r : ProviderRow). sooner e (end_seconds r.until)) None
    (take l.row-index l.row-items)
