use Rattle.std.proofs.Common.{arith, ◌≡◌, false}
use Rattle.std.proofs.lemmas.Grind.{common_steps}
use Rattle.rpki_cli.specs.Words.{texts, command_words, has_tail}
use Rattle.rpki_cli.specs.declared.words.Command.{Command}
use Rattle.rpki_cli.proofs.words.parse_other.Goals as goal

pub returns-in_default : goal.returns-in_default
returns-in_default c =
    let none : (d : Command) → has_tail d ≡ false → texts c.args.words.now ≡ command_words d → ⊥ =
    grind (arith, common_steps) in
    λ d n e i. none d n e
