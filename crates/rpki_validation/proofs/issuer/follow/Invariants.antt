use Rattle.std.proofs.Common.{Result, drop}
use Rattle.rpki_certs.specs.Validate.{Validated}
use Rattle.rpki_validation.specs.Issuer.{Leads}
use Rattle.rpki_validation.specs.declared.refusal.IssuerFault.{IssuerFault}
use Rattle.rpki_validation.proofs.issuer.follow.Given as goal

-- what comes of the certificates that are left is what comes of all
abbrev pub invariant-loop-i : goal.invariant-loop-i
invariant-loop-i l = (result : Result Validated IssuerFault)
    → Leads l.lists l.now l.i l.issuer (drop l.i l.chain) result
    → Leads l.lists l.now 0 l.fn.first l.chain result
