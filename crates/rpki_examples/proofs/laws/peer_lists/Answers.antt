use Rattle.rpki_der.specs.Tags.{SEQUENCE}
use Rattle.rpki_resources.proofs.Readings.{part-reading}
use Rattle.rpki_examples.proofs.PeersExact.{peers-part}
use Rattle.rpki_examples.proofs.laws.peer_lists.Goals as goal

pub returns : goal.returns
returns c = part-reading peers-part (λ mode o x h. (SEQUENCE, h.0, h.1))
