use Rattle.std.proofs.Common.{◌∙◌, sym}
use Rattle.rpki_sigobj.specs.Object.{mode_of}
use Rattle.rpki_validation.proofs.Naming.{named, other, unnamed}
use Rattle.rpki_validation.proofs.kinds.kind_in.Goals as goal

pub returns-in-Err-Malformed : goal.returns-in-Err-Malformed
returns-in-Err-Malformed c =
    unnamed (mode_of c.args.strict) c.args.octets.now _ c.in-Ok.ensures.cases
    (rw c.in-Err-Malformed.field-0-is at c.in-Err-Malformed.ensures.decodes)

pub returns-in-Err-Content : goal.returns-in-Err-Content
returns-in-Err-Content c =
    unnamed (mode_of c.args.strict) c.args.octets.now _ c.in-Ok.ensures.cases
    (rw c.in-Err-Content.field-0-is at c.in-Err-Content.ensures.decodes)

pub returns-in-Some : goal.returns-in-Some
returns-in-Some c =
    let d = c.in-Ok-decode.ensures.decodes in
    named (mode_of c.args.strict) c.args.octets.now _ c.in-Ok.ensures.cases c.in-Ok-decode.object.object
    d.0 d.1 c.in-Some.kind (sym c.content_type.ensures ∙ c.in-Some.ensures)

pub returns : goal.returns
returns c =
    let d = c.in-Ok-decode.ensures.decodes in
    other (mode_of c.args.strict) c.args.octets.now _ c.in-Ok.ensures.cases c.in-Ok-decode.object.object
    d.0 d.1 (λ k e. c.in-None.ensures k (c.content_type.ensures ∙ e))
