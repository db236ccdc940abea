-- The verdicts are counted by the blank that is given.
use Rattle.rpki_certificates_tests.proofs.paths.granted.answer.Given as goal

abbrev pub ghosts-answer_under : goal.ghosts-answer_under
ghosts-answer_under a = record { name = a.blank.name; parts = a.blank.parts }
