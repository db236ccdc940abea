use Rattle.rpki_signing.proofs.Contents.{whole-form, whole-kept}
use Rattle.rpki_signing.proofs.content.with_content.Goals as goal

pub from_parts-requires : goal.from_parts-requires
from_parts-requires g c =
    whole-kept g.T.Content.kind.type g.T.Content.form c.args.object c.args.content
    c.encode_ref.ensures.written c.requires.kind c.requires.content

pub returns-clause-form : goal.returns-clause-form
returns-clause-form g c =
    whole-form g.T.Content.kind.type g.T.Content.form c.args.object c.args.content
    c.encode_ref.ensures.written c.requires.kind c.from_parts.result c.requires.der
    c.from_parts.ensures.object c.from_parts.ensures.content
