use Rattle.std.proofs.Common.{◌∙◌}
use Rattle.rpki_lists.proofs.OctetsInDer.{octets-in-der}
use Rattle.rpki_files.proofs.checklist.checked.take_hash.Goals as goal

pub returns-in-Some : goal.returns-in-Some
returns-in-Some c = octets-in-der c.args.reader.now ∙ c.in-Some.ensures.found

pub returns-in-None : goal.returns-in-None
returns-in-None c = octets-in-der c.args.reader.now ∙ c.in-None.ensures.found
