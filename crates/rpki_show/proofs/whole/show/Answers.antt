-- One beginning of the source at most is such an object.
use Rattle.std.proofs.Common.{subst}
use Rattle.rpki_sigobj.specs.Signed.{ObjectForm, whole_of}
use Rattle.rpki_cli.specs.Answer.{said}
use Rattle.rpki_cli.specs.Shown.{IsShown}
use Rattle.rpki_show.specs.Contents.{HasLines}
use Rattle.rpki_show.specs.Options.{read_mode}
use Rattle.rpki_show.specs.Texts.Object.{whole_text}
use Rattle.rpki_show.specs.declared.texts.serial.Hexadecimal.TheVariants.{Octets}
use Rattle.rpki_show.proofs.Shown.{shown-refusal, shown-lines}
use Rattle.rpki_show.proofs.whole.show.Goals as goal

pub returns-in-Err : goal.returns-in-Err
returns-in-Err g c =
    subst (λ rule. IsShown c.args.causes (HasLines
    (ObjectForm g.C.Content.kind.type (g.C.Content.form rule)
    (read_mode c.args.options)) (whole_text (g.C.Lines.lines Octets))) c.args.source
    (said c.refusal.result)) c.rule.ensures
    (shown-refusal _ _ _ _ _ c.in-Err.error c.refusal.ensures c.in-Err.ensures.decodes)

pub returns-in-Ok : goal.returns-in-Ok
returns-in-Ok g c =
    let decoded = c.in-Ok.ensures.decodes in
    subst (λ rule. IsShown c.args.causes (HasLines
    (ObjectForm g.C.Content.kind.type (g.C.Content.form rule)
    (read_mode c.args.options)) (whole_text (g.C.Lines.lines Octets))) c.args.source
    (said c.show_lines-answer.result)) c.rule.ensures
    (shown-lines _ _ _ _ _ (whole_of c.in-Ok.object) decoded.0 decoded.1
    c.show_lines-answer.ensures)
