use Rattle.std.proofs.Common.{subst, arith, List, ℕ, refl}
use Rattle.sha2.specs.Hashers.{Holds256}
use Rattle.rpki_verdicts.proofs.Listed.{few-bits, pieces}
use Rattle.rpki_verdicts.proofs.crypto.hash_key.Goals as goal

pub overflow_cast-bits : goal.overflow_cast-bits
overflow_cast-bits c =
    omega (arith, few-bits c.args.bits.now c.args.len c.requires c.ranges.len.fits)

pub overflow_add-bits : goal.overflow_add-bits
overflow_add-bits c =
    omega (arith, few-bits c.args.bits.now c.args.len c.requires c.ranges.len.fits)

pub returns : goal.returns
returns c =
    let a = c.hash_header.ensures _ c.new-hasher.ensures in
    let b = c.update.ensures _ a in
    let d = c.hash_header-2.ensures _ b in
    let e = c.update-2.ensures _ d in
    let f = c.update-3.ensures _ e in
    subst (λ (m : List ℕ). Holds256 c.update-3.new.self m)
    (pieces c.args.bits.now c.args.len _ c.requires refl) f
