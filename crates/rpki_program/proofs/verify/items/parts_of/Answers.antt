use Rattle.rpki_program.proofs.Splits.{parted}
use Rattle.rpki_program.proofs.verify.items.parts_of.Goals as goal

pub returns : goal.returns
returns c = parted c.args.word.now c.split_once.result c.split_once.ensures.cases
