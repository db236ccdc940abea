-- The verdicts are counted by the blank that is given.
use Rattle.rpki_certificates_tests.proofs.paths.identifiers.is_paired.Given as goal

abbrev pub ghosts-is_paired_from : goal.ghosts-is_paired_from
ghosts-is_paired_from a = record { name = a.blank.name; parts = a.blank.parts }
