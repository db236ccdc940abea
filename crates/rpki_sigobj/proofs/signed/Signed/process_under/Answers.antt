use Rattle.rpki_sigobj.proofs.signed.Signed.process_under.Goals as goal

pub process_parts-requires : goal.process_parts-requires
process_parts-requires g c =
    rw (c.into_parts-object.ensures.object, c.into_parts-object.ensures.content) c.requires

pub returns : goal.returns
returns g c =
    rw (c.into_parts-object.ensures.object, c.into_parts-object.ensures.content)
    at c.process_parts.ensures
