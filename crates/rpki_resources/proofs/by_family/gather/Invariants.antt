use Rattle.std.proofs.Common.{◌≡◌, length}
use Rattle.std.specs.Vec.Iter.{into_iter_items, into_iter_len}
use Rattle.rpki_resources.specs.Families.Read.{gathered, no_values}
use Rattle.rpki_resources.proofs.by_family.gather.Given as goal

abbrev pub invariant-loop-entry : goal.invariant-loop-entry
invariant-loop-entry g l = record {
  gathered : gathered l.values (into_iter_items l.entry-iterator)
      ≡ gathered no_values l.fn.entries.items;
  len : into_iter_len l.entry-iterator ≡ length (into_iter_items l.entry-iterator);
}
