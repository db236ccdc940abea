-- The texts so far.
use Rattle.std.proofs.Common.{◌≡◌, map, string_bytes, take}
use Rattle.rpki_cli.proofs.runs.texts_of.Given as goal

-- the texts of the words so far
abbrev pub invariant-loop-word : goal.invariant-loop-word
invariant-loop-word l =
    map (λ t. t.now) l.texts.items ≡ map string_bytes (take l.word-index l.words)
