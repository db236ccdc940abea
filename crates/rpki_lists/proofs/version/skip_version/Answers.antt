use Rattle.std.proofs.Common.{Option}
use Rattle.rpki_der.specs.Tags.{context}
use Rattle.rpki_der.proofs.Form.Decoders.{decodes-if-next}
use Rattle.rpki_lists.proofs.Versions.{version-part}
use Rattle.rpki_lists.proofs.version.skip_version.Goals as goal

pub returns-clause-decodes : goal.returns-clause-decodes
returns-clause-decodes c =
    decodes-if-next (context 0) version-part (λ (u : Option (Unit {0})). u) c.args.cons.now
    c.skip_tagged.result c.skip_tagged.new.cons c.holds_octets.ensures c.skip_tagged.ensures.reads
