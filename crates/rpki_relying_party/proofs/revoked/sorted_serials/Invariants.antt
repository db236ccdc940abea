-- The entries whose serial numbers are still to be taken.
use Rattle.std.proofs.Common.{◌≡◌, take}
use Rattle.rpki_relying_party.proofs.revoked.sorted_serials.Given as goal

-- those before are taken
abbrev pub invariant-loop-entry : goal.invariant-loop-entry
invariant-loop-entry l = l.serials.items ≡ take l.entry-index l.entries
