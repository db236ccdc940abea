-- The certificates that are still to come.
use Rattle.std.proofs.Common.{drop, string_bytes}
use Rattle.rpki_verdicts.proofs.Pushing.{GoesOn}
use Rattle.rpki_verdicts.proofs.list.push_chain.Given as goal

-- what is left makes the lines that are missing
abbrev pub invariant-loop-octets : goal.invariant-loop-octets
invariant-loop-octets g l = GoesOn (g.C.Crypto.is_signed l.crypto) l.fn.first.certificate
    l.chain (string_bytes l.fn.text) l.issuer.certificate
    (drop l.octets-index l.chain) (string_bytes l.text)
