use Rattle.std.proofs.Common.{◌≡◌, take}
use Rattle.rpki_program.specs.Verify.Items.{values}
use Rattle.rpki_program.specs.Verify.Requests.{word_given}
use Rattle.rpki_program.proofs.verify.items.value.Given as goal

-- the only value of the items so far, if there is one
abbrev pub invariant-loop-item : goal.invariant-loop-item
invariant-loop-item l = values l.name (take l.item-index l.items) ≡ word_given l.only
