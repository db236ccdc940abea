-- A CRL fits one CA alone.
use Rattle.rpki_paths.proofs.Matches.{crls_are_unique}
use Rattle.rpki_paths.proofs.laws.crls_are_unique.Goals as goal

pub returns : goal.returns
returns c = crls_are_unique
