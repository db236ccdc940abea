use Rattle.std.proofs.Common.{◌≡◌, take}
use Rattle.rpki_cli.specs.Words.{texts, files_of_anchors}
use Rattle.rpki_cli.proofs.anchor_words.names_of_anchors.Given as goal

-- the files of the words so far are named
abbrev pub invariant-loop-word : goal.invariant-loop-word
invariant-loop-word l =
    texts l.names.items ≡ files_of_anchors (texts (take l.word-index l.words))
