use Rattle.std.proofs.Common.{◌-◌, ◌++◌, List, drop, length}
use Rattle.rpki_cli.specs.Words.{texts}
use Rattle.rpki_program.specs.Verify.Items.{AreItems}
use Rattle.rpki_program.specs.declared.verify.items.Item.{Item}
use Rattle.rpki_program.proofs.verify.items.items_of.Given as goal

-- whatever items the words left are, the words are those so far and these
abbrev pub invariant-loop-at : goal.invariant-loop-at
invariant-loop-at l = (rest : List Item) → AreItems (texts (drop l.at l.words)) rest
    → AreItems (texts l.words) (l.items.items ++ rest)

abbrev pub decreases-loop-at : goal.decreases-loop-at
decreases-loop-at l = length l.words - l.at
