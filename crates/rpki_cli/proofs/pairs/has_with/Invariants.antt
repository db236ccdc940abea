use Rattle.std.proofs.Common.{◌≡◌, ◌<◌, get_or, ℕ, List, Bor, false}
use Rattle.rpki_cli.specs.Words.{is_with}
use Rattle.rpki_cli.proofs.pairs.has_with.Given as goal

-- none of the words so far is `with`
abbrev pub invariant-loop-word : goal.invariant-loop-word
invariant-loop-word l =
    (k : ℕ) (d : Bor (List ℕ)) → k < l.word-index → is_with (get_or l.tail k d).now ≡ false
