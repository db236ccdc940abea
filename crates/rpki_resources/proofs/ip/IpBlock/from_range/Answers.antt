use Rattle.std.proofs.Common.{ap}
use Rattle.rpki_resources.specs.declared.ip.IpBlock.TheVariants.{Prefix}
use Rattle.rpki_resources.proofs.Prefixes.Lengths.{prefix-unique, network-of}
use Rattle.rpki_resources.proofs.ip.IpBlock.from_range.Goals as goal

pub returns-in-Some-clause-prefix : goal.returns-in-Some-clause-prefix
returns-in-Some-clause-prefix c = λ len p.
    let found = rw (c.to_bits.ensures, c.to_bits-2.ensures) at c.in-Some.ensures.some in
    ap Prefix (network-of c.args.min c.in-Some.len len
    (prefix-unique c.args.min c.args.max c.in-Some.len len found p)
    p.aligned c.new.result c.new.ensures)
