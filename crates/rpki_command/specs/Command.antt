-- The program with verdicts: what each of its commands comes to.
use Rattle.std.specs.Prelude.{◌∷◌}
use Rattle.rpki_cli.specs.Answer.{usage}
use Rattle.rpki_cli.specs.Command.{Task, ShowLines, CheckFiles, Program, objects_language}
use Rattle.rpki_cli.specs.Words.{others_in, files_of_anchors}
use Rattle.rpki_cli.specs.declared.words.Command.{Command}
use Rattle.rpki_cli.specs.declared.words.Command.TheVariants.{Content, ContentRta, Show, ShowRta}
use Rattle.rpki_cli.specs.declared.words.Command.TheVariants.{ShowTal, Check, Walk, Rta}
use Rattle.rpki_cli.specs.declared.words.Options.{Options}
use Rattle.rpki_show.specs.Attestation.{AttestationLines, RtaLines}
use Rattle.rpki_show.specs.Contents.{LinesOf}
use Rattle.rpki_show.specs.Objects.{ObjectLinesOf}
use Rattle.rpki_show.specs.Texts.Tal.{TalLines}
use Rattle.rpki_command.specs.Check.{CheckOf}
use Rattle.rpki_command.specs.Rta.{RtaOf}
use Rattle.rpki_command.specs.Walk.{WalkOf}

-- What each command of the program with verdicts comes to with these options: the table of its
-- commands. An attestation is in DER, and a locator is a text: no option speaks of them.
abbrev pub command_task : Options → Command → Task
command_task options (Content kind file) = ShowLines file (LinesOf options kind)
command_task options (ContentRta file) = ShowLines file AttestationLines
command_task options (Show kind file) = ShowLines file (ObjectLinesOf options kind)
command_task options (ShowRta file) = ShowLines file RtaLines
command_task options (ShowTal file) = ShowLines file TalLines
command_task options (Check kind file moment verdicts anchor chain) =
    CheckFiles (file ∷ verdicts ∷ anchor ∷ chain) (CheckOf options kind moment)
command_task options (Walk file moment verdicts anchor tail) =
    CheckFiles (file ∷ verdicts ∷ anchor ∷ others_in tail) (WalkOf options moment tail)
command_task options (Rta file moment verdicts anchors) =
    CheckFiles (file ∷ verdicts ∷ files_of_anchors anchors) (RtaOf moment anchors)

-- the program with verdicts
abbrev pub objects_program : Program
objects_program = record {
  language = objects_language;
  task = command_task;
  wrong = usage;
}
