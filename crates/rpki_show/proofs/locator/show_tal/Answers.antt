use Rattle.rpki_show.specs.Texts.Tal.{tal_text}
use Rattle.rpki_show.proofs.Located.{shown-no-tal, shown-tal}
use Rattle.rpki_show.proofs.locator.show_tal.Goals as goal

pub returns-in-Err : goal.returns-in-Err
returns-in-Err c = shown-no-tal _ _ tal_text c.in-Err.error c.refusal.ensures c.in-Err.ensures

pub returns-in-Ok : goal.returns-in-Ok
returns-in-Ok c = shown-tal _ _ tal_text c.in-Ok.tal c.in-Ok.ensures c.show_lines-answer.ensures
