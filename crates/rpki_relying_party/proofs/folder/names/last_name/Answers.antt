use Rattle.std.proofs.Common.{◌≡◌, get_or, arith, rules, sym}
use Rattle.std.proofs.lemmas.Str.{IsCharBoundary-after_ascii}
use Rattle.rpki_relying_party.proofs.Names.{after-last, last-none}
use Rattle.rpki_relying_party.proofs.folder.names.last_name.Goals as goal

pub range_from-requires : goal.range_from-requires
range_from-requires c _ =
    let slash : get_or c.args.path.now c.in-Some.at 0 ≡ 47 = search rules in
    IsCharBoundary-after_ascii _ _ c.utf8.path (search rules) (omega arith)

pub returns-in-Some : goal.returns-in-Some
returns-in-Some c =
    let found = after-last c.args.path.now c.in-Some.at (search rules) (search rules)
    (search rules) in rw found (search rules)

pub returns-in-None : goal.returns-in-None
returns-in-None c = sym (last-none c.args.path.now (search rules))
