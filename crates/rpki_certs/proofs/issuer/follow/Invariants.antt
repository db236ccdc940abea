-- The certificates that are still to come.
use Rattle.std.proofs.Common.{Result, drop}
use Rattle.rpki_certs.specs.Validate.{Validated}
use Rattle.rpki_certs.specs.Issuer.{Follows}
use Rattle.rpki_certs.specs.declared.issuer.IssuerError.{IssuerError}
use Rattle.rpki_certs.proofs.issuer.follow.Given as goal

-- what comes of those that are left is what comes of all
abbrev pub invariant-loop-octets : goal.invariant-loop-octets
invariant-loop-octets g l = (result : Result Validated IssuerError)
    → Follows (g.C.Crypto.is_signed l.crypto) l.now l.issuer
    (drop l.octets-index l.chain) result
    → Follows (g.C.Crypto.is_signed l.crypto) l.now l.fn.first l.chain result
