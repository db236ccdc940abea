-- The verdicts are counted by a blank of their own.
use Rattle.rpki_rta.proofs.validation.Validation.new_at.Given as goal

abbrev pub ghosts-begin : goal.ghosts-begin
ghosts-begin g a = record { name = a.blank.name; parts = a.blank.parts }
