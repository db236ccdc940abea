use Rattle.std.proofs.Common.{◌≡◌, ◌<◌, get_or, ℕ, List, Bor, false}
use Rattle.rpki_cli.specs.Words.{is_with}
use Rattle.rpki_cli.proofs.pairs.cut_at_with.Given as goal

-- none of the words so far is `with`
abbrev pub invariant-loop-at : goal.invariant-loop-at
invariant-loop-at l = (k : ℕ) (d : Bor (List ℕ)) → k < l.at → is_with (get_or l.tail k d).now ≡ false
