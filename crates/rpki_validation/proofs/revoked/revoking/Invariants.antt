use Rattle.std.proofs.Common.{take}
use Rattle.rpki_validation.specs.Revoked.{IsUnrevoked}
use Rattle.rpki_validation.proofs.revoked.revoking.Given as goal

-- none of the lists so far revokes the certificate
abbrev pub invariant-loop-i : goal.invariant-loop-i
invariant-loop-i l = IsUnrevoked (take l.i l.lists) l.issuer.certificate l.cert.certificate
