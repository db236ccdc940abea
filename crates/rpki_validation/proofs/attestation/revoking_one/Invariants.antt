use Rattle.std.proofs.Common.{take}
use Rattle.rpki_validation.specs.Attestation.{AreUnrevokedOf}
use Rattle.rpki_validation.proofs.attestation.revoking_one.Given as goal

-- none of the certificates so far is of the issuer and revoked
abbrev pub invariant-loop-cert : goal.invariant-loop-cert
invariant-loop-cert l = AreUnrevokedOf l.lists l.issuer.certificate (take l.cert-index l.certs)
