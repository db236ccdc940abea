-- Those that the loop has had were kept.
use Rattle.std.proofs.Common.{◌≡◌, ◌++◌, List, length}
use Rattle.std.specs.Vec.Iter.{into_iter_items, into_iter_len}
use Rattle.rpki_relying_party.specs.declared.found.Finding.{Finding}
use Rattle.rpki_relying_party.specs.Found.{KeepsFindings}
use Rattle.rpki_relying_party.proofs.found.Found.keep_all.Given as goal

abbrev pub invariant-loop-finding : goal.invariant-loop-finding
invariant-loop-finding l =
    (done : List Finding)
    × (l.fn.said.items ≡ done ++ into_iter_items l.finding-iterator)
    × (into_iter_len l.finding-iterator ≡ length (into_iter_items l.finding-iterator))
    × KeepsFindings done l.fn.self l.self
