use Rattle.rpki_payloads.proofs.Applied.{origins-follow, providers-follow}
use Rattle.rpki_payloads.proofs.laws.exceptions_are_applied.Goals as goal

pub returns : goal.returns
returns c = record { origins = origins-follow; providers = providers-follow }
