use Rattle.rpki_examples.proofs.PeersWritten.{peers-written, peers-only, peers-again, peers-found}
use Rattle.rpki_examples.proofs.laws.peer_lists_are_written.Goals as goal

pub returns-clause-written : goal.returns-clause-written
returns-clause-written c = peers-written

pub returns-clause-only : goal.returns-clause-only
returns-clause-only c = peers-only

pub returns-clause-read : goal.returns-clause-read
returns-clause-read c = peers-again

pub returns-clause-found : goal.returns-clause-found
returns-clause-found c = peers-found
