use Rattle.std.proofs.Common.{List, ℕ, Ok, subst}
use Rattle.rpki_cli.specs.Answer.{said}
use Rattle.rpki_cli.specs.Shown.{IsShown}
use Rattle.rpki_cli.specs.declared.causes.Causes.TheVariants.{Omitted}
use Rattle.rpki_show.specs.Texts.Tal.{TalLines}
use Rattle.rpki_command.proofs.program.show_locator.Goals as goal

pub returns-in-Ok-clause-said : goal.returns-in-Ok-clause-said
returns-in-Ok-clause-said g c = (
  Ok c.in-Ok.octets,
  c.in-Ok.ensures.answer,
  subst (λ (o : List ℕ). IsShown Omitted TalLines o (said c.show_tal.result)) c.as_slice.ensures
      c.show_tal.ensures,
)
