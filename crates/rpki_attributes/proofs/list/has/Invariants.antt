use Rattle.std.proofs.Common.{◌≡◌, drop}
use Rattle.rpki_der.specs.Form.Keyed.{has_key}
use Rattle.rpki_attributes.specs.Attribute.{type_of}
use Rattle.rpki_attributes.proofs.list.has.Given as goal

abbrev pub invariant-loop-attribute : goal.invariant-loop-attribute
invariant-loop-attribute l =
    has_key type_of l.oid (drop l.attribute-index l.list) ≡ has_key type_of l.oid l.list
