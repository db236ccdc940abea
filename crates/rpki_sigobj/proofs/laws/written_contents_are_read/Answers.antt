use Rattle.rpki_der.specs.declared.mode.Mode.TheVariants.{Der}
use Rattle.rpki_sigobj.proofs.ReadAgain.{read-again}
use Rattle.rpki_sigobj.specs.Signed.{ObjectForm, whole_of}
use Rattle.rpki_sigobj.proofs.laws.written_contents_are_read.Goals as goal

pub returns : goal.returns
returns g c rule o rest r form read =
    read-again (ObjectForm g.T.Content.kind.type (g.T.Content.form rule) Der) whole_of
    o.object.octets rest o r form read
