-- The map has the places of the identifiers so far.
use Rattle.std.proofs.Common.{ℕ, List}
use Rattle.rpki_paths.specs.Index.{listed}
use Rattle.rpki_paths.proofs.Indexing.{IsScan}
use Rattle.rpki_paths.proofs.key_id_index.KeyIdIndex.of.Given as goal

abbrev pub invariant-loop-i : goal.invariant-loop-i
invariant-loop-i l = (id : List ℕ) → IsScan l.ids id 0 l.i (listed l.map id)
