use Rattle.std.proofs.Common.{length}
use Rattle.rpki_der.specs.Read.Parse.{optional}
use Rattle.rpki_der.proofs.Reading.Within.{ReadWithin}
use Rattle.rpki_der.proofs.read.constructed.Constructed.gather.Given as goal

abbrev pub invariant-loop-items : goal.invariant-loop-items
invariant-loop-items g l =
    ReadWithin (optional g.T.ListItem.tag g.T.ListItem.at) l.items.items l.fn.self l.self

abbrev pub decreases-loop-items : goal.decreases-loop-items
decreases-loop-items g l = length l.self.rest
