use Rattle.std.proofs.Common.{arith}
use Rattle.rpki_verdicts.proofs.Listed.{bits-fit, key-len}
use Rattle.rpki_verdicts.proofs.crypto.key_len.Goals as goal

pub overflow_add-len : goal.overflow_add-len
overflow_add-len c =
    omega (arith, bits-fit c.args.bits.now _ c.in-Ok.ensures.0 c.in-Ok.ensures.2)

pub returns-in-Err-try_from : goal.returns-in-Err-try_from
returns-in-Err-try_from c = λ h.
    let n = key-len c.args.bits.now _ c.in-Ok.ensures.0 in
    omega (arith, h, n, c.in-Err-try_from.ensures)

pub returns-in-Ok-try_from : goal.returns-in-Ok-try_from
returns-in-Ok-try_from c =
    let n = key-len c.args.bits.now _ c.in-Ok.ensures.0 in
    omega (arith, n, c.in-Ok-try_from.ensures)
