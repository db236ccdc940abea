use Rattle.rpki_command.proofs.Making.{AreMadeTo}
use Rattle.rpki_command.proofs.anchors.anchors_of.Given as goal

-- the anchors so far are made, and the files of the others are left
abbrev pub invariant-loop-word : goal.invariant-loop-word
invariant-loop-word g l =
    AreMadeTo (g.K.Crypto.is_signed l.crypto) l.now l.words l.files l.word-index l.rest
    l.anchors.items
