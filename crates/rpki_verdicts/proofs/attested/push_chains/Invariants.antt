use Rattle.std.proofs.Common.{string_bytes}
use Rattle.rpki_verdicts.proofs.Carrying.{ArePushedTo}
use Rattle.rpki_verdicts.proofs.attested.push_chains.Given as goal

-- the lines of the chains so far are there
abbrev pub invariant-loop-chain : goal.invariant-loop-chain
invariant-loop-chain g l =
    ArePushedTo (g.C.Crypto.is_signed l.crypto) l.chains l.chain-index (string_bytes l.fn.text)
    (string_bytes l.text) l.supplied.items
