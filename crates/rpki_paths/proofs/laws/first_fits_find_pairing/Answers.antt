-- The law, at each kind of pairing.
use Rattle.rpki_paths.specs.Pairing.{HasKey, IsVerifiedBy, HasCrl}
use Rattle.rpki_paths.proofs.PairingOff.{finds-partner}
use Rattle.rpki_paths.proofs.laws.first_fits_find_pairing.Goals as goal

pub returns-clause-keys : goal.returns-clause-keys
returns-clause-keys c = finds-partner HasKey

pub returns-clause-ees : goal.returns-clause-ees
returns-clause-ees c = finds-partner IsVerifiedBy

pub returns-clause-crls : goal.returns-clause-crls
returns-clause-crls c = finds-partner HasCrl
