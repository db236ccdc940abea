use Rattle.std.proofs.Common.{ℕ, List, Ok, subst}
use Rattle.rpki_der.specs.Form.Decodes.{Decodes, IsOnlyFront}
use Rattle.rpki_der.specs.Grammar.{HasNoFront}
use Rattle.rpki_der.specs.Read.Reads.{Refuses}
use Rattle.rpki_sigobj.specs.Object.{mode_of}
use Rattle.rpki_sigobj.specs.Signed.{ObjectForm, whole_of}
use Rattle.rpki_check.proofs.object.read_object.Goals as goal

pub returns-in-Ok-decode : goal.returns-in-Ok-decode
returns-in-Ok-decode g c =
    let mode = mode_of c.args.manner.strict in
    let type = g.T.Content.kind.type in
    let d = subst (λ rule. Decodes (ObjectForm type (g.T.Content.form rule) mode) whole_of
    c.in-Ok.source (Ok c.in-Ok-decode.object)) c.rule-rule.ensures c.in-Ok-decode.ensures.decodes in
    record {
      object = whole_of c.in-Ok-decode.object;
      rest = d.0;
      front =
          subst (λ (o : List ℕ). IsOnlyFront (ObjectForm type
          (g.T.Content.form (g.T.Lines.rule_in c.args.manner)) mode) o
          (whole_of c.in-Ok-decode.object) d.0) c.in-Ok.ensures d.1;
      holds = c.into_content.ensures;
    }

pub returns-in-Err : goal.returns-in-Err
returns-in-Err g c =
    let mode = mode_of c.args.manner.strict in
    let type = g.T.Content.kind.type in
    subst (λ (o : List ℕ). Refuses c.in-Err.fault (HasNoFront (ObjectForm type
    (g.T.Content.form (g.T.Lines.rule_in c.args.manner)) mode) o)) c.in-Ok.ensures
    (subst (λ rule. Refuses c.in-Err.fault (HasNoFront (ObjectForm type (g.T.Content.form rule) mode)
    c.in-Ok.source)) c.rule-rule.ensures c.in-Err.ensures.decodes)
