use Rattle.rpki_lists.proofs.Names.Exact.{addresses-part}
use Rattle.rpki_lists.proofs.laws.named_addresses.Goals as goal

pub returns : goal.returns
returns c = addresses-part
