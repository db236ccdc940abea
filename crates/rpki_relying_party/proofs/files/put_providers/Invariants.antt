use Rattle.std.proofs.Common.{length}
use Rattle.rpki_relying_party.specs.Tells.{provider_said, providers_said}
use Rattle.rpki_relying_party.proofs.Judging.{IsPaid}
use Rattle.rpki_relying_party.proofs.files.put_providers.Given as goal

-- what was put, and what is still to come, is all, and costs all
abbrev pub invariant-loop-provider : goal.invariant-loop-provider
invariant-loop-provider l = IsPaid (provider_said l.until l.uri l.customer)
    (providers_said l.until l.uri l.aspa) (length l.aspa.providers) l.fn.said.items l.fn.room
    l.provider-iterator l.said.items l.room
