use Rattle.rpki_cli.proofs.Orders.{asked-once}
use Rattle.rpki_cli.proofs.laws.words_ask_for_one_thing.Goals as goal

pub returns : goal.returns
returns c = asked-once
