-- What is said is the answer of the program.
use Rattle.rpki_cli.proofs.runs.command.Goals as goal

pub returns-clause-run : goal.returns-clause-run
returns-clause-run g c = c.answer.ensures.run _ c.say.ensures
