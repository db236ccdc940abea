-- Each path of a granted attestation has an anchor.
use Rattle.rpki_paths.proofs.Grants.{unanchored_is_refused}
use Rattle.rpki_paths.proofs.laws.unanchored_is_refused.Goals as goal

pub returns : goal.returns
returns c = unanchored_is_refused
