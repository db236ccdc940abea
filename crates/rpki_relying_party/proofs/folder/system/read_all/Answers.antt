use Rattle.std.proofs.Common.{◌≡◌, ◌+◌, ◌-◌, ◌^◌, min, rules, length, arith}
use Rattle.std.specs.Io.Take.{take_limit}
use Rattle.rpki_relying_party.specs.Folders.{IsFew}
use Rattle.rpki_relying_party.proofs.Copies.{all-read}
use Rattle.rpki_relying_party.proofs.folder.system.read_all.Goals as goal

pub returns-clause-all : goal.returns-clause-all
returns-clause-all g c =
    let items = c.read_to_end.new.buf.items in
    let few : IsFew c.args.bounds (length items) = search rules in
    let limit : take_limit c.take-bounded.result
    ≡ min (min c.args.bounds.max_file c.args.bounds.most + 1) (2 ^ 64 - 1) = search rules in
    all-read g.F.Read.remaining c.take-bounded.result c.args.reader c.new-octets.result.items items
    (search rules) (search rules)
    (omega (arith, few.0, few.1, limit, c.read_to_end.new.buf.small)) (search rules)
