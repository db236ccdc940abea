-- The lists so far.
use Rattle.std.proofs.Common.{◌≡◌, map, take}
use Rattle.rpki_rta.specs.Carried.{seen_crl}
use Rattle.rpki_rta.specs.Handles.{crl_of}
use Rattle.rpki_rta.proofs.handles.lists_of.Given as goal

abbrev pub invariant-loop-i : goal.invariant-loop-i
invariant-loop-i g l =
    map (crl_of g.C.Crypto.is_signed) l.lists.items
    ≡ map (λ c. seen_crl (g.C.Crypto.is_signed l.crypto) c.list) (take l.i l.crls)
