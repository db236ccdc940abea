use Rattle.std.proofs.Common.{◌≡◌, length}
use Rattle.rpki_der.specs.Form.Keyed.{only_one}
use Rattle.rpki_attributes.specs.Attribute.{type_of}
use Rattle.rpki_attributes.proofs.list.only_one.Given as goal

abbrev pub invariant-loop-first : goal.invariant-loop-first
invariant-loop-first l = only_one type_of l.oid l.rest ≡ only_one type_of l.oid l.list

abbrev pub decreases-loop-first : goal.decreases-loop-first
decreases-loop-first l = length l.rest
