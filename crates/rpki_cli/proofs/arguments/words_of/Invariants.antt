-- The words so far.
use Rattle.std.proofs.Common.{map, string_bytes}
use Rattle.rpki_cli.proofs.Following.{AreFirst, AreUtf8}
use Rattle.rpki_cli.proofs.arguments.words_of.Given as goal

-- the words so far are the first ones, and texts
abbrev pub invariant-loop-count : goal.invariant-loop-count
invariant-loop-count g l = record {
  first : AreFirst (g.A.Arguments.told l.arguments) l.count (map string_bytes l.words.items);
  texts : AreUtf8 l.words.items;
}
