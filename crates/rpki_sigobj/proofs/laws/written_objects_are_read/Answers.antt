use Rattle.rpki_der.specs.declared.mode.Mode.TheVariants.{Der}
use Rattle.rpki_sigobj.proofs.ReadAgain.{read-again}
use Rattle.rpki_sigobj.specs.Object.{SignedForm}
use Rattle.rpki_sigobj.proofs.laws.written_objects_are_read.Goals as goal

pub returns : goal.returns
returns c o rest r form read = read-again (SignedForm Der) (λ k. k.object) o.octets rest o r form read
