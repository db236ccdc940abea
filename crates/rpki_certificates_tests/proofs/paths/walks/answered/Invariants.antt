-- The verdicts are counted by the blank that is given.
use Rattle.rpki_certificates_tests.proofs.paths.walks.answered.Given as goal

abbrev pub ghosts-answer_of : goal.ghosts-answer_of
ghosts-answer_of a = record { name = a.blank.name; parts = a.blank.parts }
