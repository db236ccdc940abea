-- Any choice among alike items, at each kind of pairing.
use Rattle.rpki_paths.specs.Pairing.{HasKey, IsVerifiedBy, HasCrl}
use Rattle.rpki_paths.proofs.Pairings.{any_choice_pairs}
use Rattle.rpki_paths.proofs.laws.any_choice_pairs.Goals as goal

pub returns-clause-keys : goal.returns-clause-keys
returns-clause-keys c = any_choice_pairs HasKey

pub returns-clause-ees : goal.returns-clause-ees
returns-clause-ees c = any_choice_pairs IsVerifiedBy

pub returns-clause-crls : goal.returns-clause-crls
returns-clause-crls c = any_choice_pairs HasCrl
