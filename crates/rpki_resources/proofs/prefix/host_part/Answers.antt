use Rattle.std.proofs.Common.{◌≡◌, ◌-◌, ◌^◌, arith}
use Rattle.std.proofs.lemmas.Nat.{and_mask}
use Rattle.rpki_resources.proofs.prefix.host_part.Goals as goal

pub returns : goal.returns
returns c =
    let e : c.host_mask.result ≡ 2 ^ (128 - c.args.len) - 1 = omega arith in
    rw e (and_mask c.args.addr (128 - c.args.len))
