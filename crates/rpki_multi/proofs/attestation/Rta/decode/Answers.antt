use Rattle.rpki_der.specs.declared.mode.Mode.TheVariants.{Der}
use Rattle.rpki_multi.specs.Multi.{multi_of}
use Rattle.rpki_multi.proofs.Multis.Fronts.{object-refused, content-refused, whole-found}
use Rattle.rpki_multi.proofs.attestation.Rta.decode.Goals as goal

pub returns-in-Err : goal.returns-in-Err
returns-in-Err c = object-refused Der c.args.source c.in-Err.e c.in-Err.ensures.decodes

pub returns-in-Err-read_content : goal.returns-in-Err-read_content
returns-in-Err-read_content c =
    let front = c.in-Ok.ensures.decodes in
    content-refused Der c.args.source (multi_of c.in-Ok.signed) front.0 front.1
    c.in-Err-read_content.e c.in-Err-read_content.ensures

pub returns-in-Ok-read_content : goal.returns-in-Ok-read_content
returns-in-Ok-read_content c =
    let front = c.in-Ok.ensures.decodes in
    let content = c.in-Ok-read_content.ensures in (
      front.0,
      whole-found Der c.args.source (multi_of c.in-Ok.signed) front.0 front.1
          c.in-Ok-read_content.content content.0 content.1,
    )

pub invariant_of-result : goal.invariant_of-result
invariant_of-result c =
    let content = c.in-Ok-read_content.ensures in
    (c.in-Ok.ensures.mode, (content.0, content.1.found))
