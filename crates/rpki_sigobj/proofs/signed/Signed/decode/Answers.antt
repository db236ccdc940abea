use Rattle.rpki_sigobj.specs.Object.{mode_of}
use Rattle.rpki_sigobj.proofs.signed.Signed.decode.Goals as goal
use Rattle.rpki_sigobj.proofs.Wholes.Fronts.{kept-whole}
use Rattle.rpki_sigobj.proofs.Wholes.Fronts.{object-refused, content-refused, whole-found}

pub returns-in-Err-clause-decodes : goal.returns-in-Err-clause-decodes
returns-in-Err-clause-decodes g c =
    object-refused g.T.Content.kind.type (g.T.Content.form c.args.rule) (mode_of c.args.strict)
    c.args.source c.in-Err.e c.in-Err.ensures.decodes

pub returns-in-Err-read_content-clause-decodes : goal.returns-in-Err-read_content-clause-decodes
returns-in-Err-read_content-clause-decodes g c =
    let front = c.in-Ok.ensures.decodes in
    content-refused g.T.Content.kind.type (g.T.Content.form c.args.rule) (mode_of c.args.strict)
    c.args.source c.in-Ok.object.object front.0 front.1 c.in-Err-read_content.e
    c.in-Err-read_content.ensures.decodes

pub returns-in-Ok-read_content-clause-decodes : goal.returns-in-Ok-read_content-clause-decodes
returns-in-Ok-read_content-clause-decodes g c =
    let front = c.in-Ok.ensures.decodes in
    let content = c.in-Ok-read_content.ensures.decodes in (
      front.0,
      whole-found g.T.Content.kind.type (g.T.Content.form c.args.rule) (mode_of c.args.strict)
          c.args.source c.in-Ok.object.object front.0 front.1 c.in-Ok-read_content.content
          content.0 content.1,
    )

pub invariant_of-result : goal.invariant_of-result
invariant_of-result g c =
    let front = c.in-Ok.ensures.decodes in
    let content = c.in-Ok-read_content.ensures.decodes in
    kept-whole g.T.Content.kind.type g.T.Content.form c.args.rule c.in-Ok.object
    (mode_of c.args.strict) c.args.source front.0 c.in-Ok.ensures.mode front.1
    c.in-Ok-read_content.content content.0 content.1
