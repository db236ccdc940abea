use Rattle.std.proofs.Common.{length}
use Rattle.rpki_routes.specs.Roa.{addresses}
use Rattle.rpki_relying_party.specs.Tells.{origin_said, origins_said}
use Rattle.rpki_relying_party.proofs.Judging.{IsPaid}
use Rattle.rpki_relying_party.proofs.files.put_origins.Given as goal

-- what was put, and what is still to come, is all, and costs all
abbrev pub invariant-loop-origin : goal.invariant-loop-origin
invariant-loop-origin l = IsPaid (origin_said l.until l.uri) (origins_said l.until l.uri l.roa)
    (length (addresses l.roa)) l.fn.said.items l.fn.room l.origin-iterator l.said.items l.room
