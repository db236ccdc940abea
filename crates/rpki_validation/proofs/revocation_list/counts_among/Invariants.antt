use Rattle.std.proofs.Common.{All, ℕ, List, take}
use Rattle.rpki_validation.specs.RevocationList.{CountsUnder}
use Rattle.rpki_validation.proofs.revocation_list.counts_among.Given as goal

-- the list counts for none of the CAs so far
abbrev pub invariant-loop-octets : goal.invariant-loop-octets
invariant-loop-octets l =
    All (λ (o : List ℕ). ¬ CountsUnder o l.list.list) (take l.octets-index l.chain)
