use Rattle.std.proofs.Common.{length}
use Rattle.rpki_der.specs.Read.Parse.{optional}
use Rattle.rpki_der.specs.Read.Reads.{ReadSoFar}
use Rattle.rpki_der.specs.Tags.{SEQUENCE}
use Rattle.rpki_attributes.specs.Attribute.Read.{attribute_at}
use Rattle.rpki_attributes.proofs.list.take_list.Given as goal

abbrev pub invariant-loop-list : goal.invariant-loop-list
invariant-loop-list l =
    ReadSoFar (optional SEQUENCE (attribute_at l.others)) l.list.items l.fn.cons l.cons

abbrev pub decreases-loop-list : goal.decreases-loop-list
decreases-loop-list l = length l.cons.rest
