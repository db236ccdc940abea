-- More was spent on the key, and on no other.
use Rattle.std.proofs.Common.{ℕ, ◌+◌, List, ap, ◌∙◌}
use Rattle.rpki_relying_party.specs.Steps.{spent_for}
use Rattle.rpki_relying_party.proofs.Spending.{spends}
use Rattle.rpki_relying_party.proofs.walk.count_cut.Goals as goal

pub returns : goal.returns
returns c = spends c.args.key c.args.spent.now c.insert.new.self (c.spent_on.result + c.args.room)
    c.args.room (ap (λ (n : ℕ). n + c.args.room) (c.spent_on.ensures
    ∙ ap (λ (l : List ℕ). spent_for c.args.spent.now l) c.as_slice.ensures.value))
    c.in_ok-insert.ensures.updates
