-- The signer has the key's identifier and the digest, and the certificate has the key.
use Rattle.rpki_rta.proofs.Matching.{made_signers_match}
use Rattle.rpki_rta.proofs.laws.made_signers_match.Goals as goal

pub returns : goal.returns
returns g c = made_signers_match g.S.Signer.may_sign
