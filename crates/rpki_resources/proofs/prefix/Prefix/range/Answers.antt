use Rattle.std.proofs.Common.{rules, ◌<◌, ◌^◌}
use Rattle.rpki_resources.specs.Prefix.{IsPrefix}
use Rattle.rpki_resources.proofs.Addresses.Within.{prefix-within}
use Rattle.rpki_resources.proofs.prefix.Prefix.range.Goals as goal

pub returns-clause-within : goal.returns-clause-within
returns-clause-within c = λ family l.
    let p : IsPrefix c.self.inside.addr c.from_bits.result c.args.self.len = search rules in
    let below : c.from_bits.result < 2 ^ 128 = search rules in
    prefix-within family _ _ c.args.self.len p below l
