-- The signers so far.
use Rattle.std.proofs.Common.{◌≡◌, map, take}
use Rattle.rpki_rta.specs.Carried.{seen_signer}
use Rattle.rpki_rta.specs.Handles.{signer_of}
use Rattle.rpki_rta.proofs.handles.signers_of.Given as goal

abbrev pub invariant-loop-i : goal.invariant-loop-i
invariant-loop-i g l =
    map (signer_of g.C.Crypto.is_signed) l.signers.items
    ≡ map (λ s. seen_signer (g.C.Crypto.is_signed l.crypto) l.digest s.signer) (take l.i l.infos)
