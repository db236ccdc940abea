use Rattle.std.proofs.Common.{length}
use Rattle.rpki_der.specs.Read.Reads.{ReadUpTo}
use Rattle.rpki_extensions.specs.Names.{general_name_at}
use Rattle.rpki_extensions.proofs.name.take_general_names.Given as goal

abbrev pub invariant-loop-names : goal.invariant-loop-names
invariant-loop-names l = ReadUpTo general_name_at l.names.items l.fn.cons l.cons

abbrev pub decreases-loop-names : goal.decreases-loop-names
decreases-loop-names l = length l.cons.rest
