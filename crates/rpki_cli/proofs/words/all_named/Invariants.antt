use Rattle.std.proofs.Common.{◌≡◌, ◌==◌, ◌<◌, length, get_or, ℕ, List, Bor, false}
use Rattle.rpki_cli.proofs.words.all_named.Given as goal

-- the files so far have a name
abbrev pub invariant-loop-file : goal.invariant-loop-file
invariant-loop-file l = (k : ℕ) (d : Bor (List ℕ)) → k < l.file-index
    → (length (get_or l.files k d).now == 0) ≡ false
