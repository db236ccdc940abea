-- Those so far are counted.
use Rattle.std.proofs.Common.{◌≡◌, ℕ, List, take}
use Rattle.rpki_relying_party.specs.Runs.{count_for, left_under}
use Rattle.rpki_relying_party.proofs.locator.count_why.Given as goal

abbrev pub invariant-loop-left : goal.invariant-loop-left
invariant-loop-left l =
    (uri : List ℕ) → count_for l.counts uri ≡ left_under (take l.left-index l.unread) l.why uri
