use Rattle.rpki_program.proofs.Asked.{asked-alone, asked-with-items}
use Rattle.rpki_program.proofs.verify.words.parse.Goals as goal

pub returns-in-Some-asked_alone : goal.returns-in-Some-asked_alone
returns-in-Some-asked_alone c =
    asked-alone _ _ _ _ c.in-Some.ensures.cases.0 c.in-Some-asked_alone.ensures

pub returns-in-Ok : goal.returns-in-Ok
returns-in-Ok c =
    asked-with-items _ _ _ _ _ c.in-Some.ensures.cases.0 c.in-Some-command_of.ensures c.in-Ok.ensures
