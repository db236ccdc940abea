use Rattle.rpki_tal.proofs.Order.{first-again}
use Rattle.rpki_tal.proofs.laws.https_first_again.Goals as goal

pub returns : goal.returns
returns c = λ uris. first-again uris
