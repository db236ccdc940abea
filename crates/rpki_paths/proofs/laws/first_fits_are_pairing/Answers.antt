-- The law, at each kind of pairing.
use Rattle.rpki_paths.specs.Pairing.{HasKey, IsVerifiedBy, HasCrl}
use Rattle.rpki_paths.proofs.PairingOff.{pairs_are_pairing}
use Rattle.rpki_paths.proofs.laws.first_fits_are_pairing.Goals as goal

pub returns-clause-keys : goal.returns-clause-keys
returns-clause-keys c = pairs_are_pairing HasKey

pub returns-clause-ees : goal.returns-clause-ees
returns-clause-ees c = pairs_are_pairing IsVerifiedBy

pub returns-clause-crls : goal.returns-clause-crls
returns-clause-crls c = pairs_are_pairing HasCrl
