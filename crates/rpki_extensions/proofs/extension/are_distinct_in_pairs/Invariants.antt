use Rattle.std.proofs.Common.{◌≡◌, length}
use Rattle.rpki_der.specs.Form.Keyed.{are_distinct}
use Rattle.rpki_extensions.specs.Extension.{oid_of}
use Rattle.rpki_extensions.proofs.extension.are_distinct_in_pairs.Given as goal

-- what is left decides
abbrev pub invariant-loop-first : goal.invariant-loop-first
invariant-loop-first l = are_distinct oid_of l.rest ≡ are_distinct oid_of l.list

abbrev pub decreases-loop-first : goal.decreases-loop-first
decreases-loop-first l = length l.rest
