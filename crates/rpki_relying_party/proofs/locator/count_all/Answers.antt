-- Those that were left for the one, and for the other.
use Rattle.std.proofs.Common.{◌≡◌, ℕ, List}
use Rattle.rpki_relying_party.specs.Runs.{counted, left_under}
use Rattle.rpki_relying_party.specs.declared.walk.Why.{Why}
use Rattle.rpki_relying_party.specs.declared.walk.Why.TheVariants.{Limit, Memory}
use Rattle.rpki_relying_party.proofs.locator.count_all.Goals as goal

pub returns : goal.returns
returns c = of
  where
    of : (why : Why) (uri : List ℕ)
        → counted (record { limit = c.in_ok-limit.limit; memory = c.in_ok-memory.memory }) why uri
        ≡ left_under c.args.unread.now why uri
    of Limit uri = c.in_ok-limit.ensures uri
    of Memory uri = c.in_ok-memory.ensures uri
