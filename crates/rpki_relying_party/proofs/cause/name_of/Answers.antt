-- What stands after the last slash, which may be cut there.
use Rattle.std.proofs.Common.{◌≡◌, get_or, arith, rules, sym}
use Rattle.std.proofs.lemmas.Str.{IsCharBoundary-after_ascii}
use Rattle.rpki_relying_party.proofs.Names.{after-last, last-none}
use Rattle.rpki_relying_party.proofs.cause.name_of.Goals as goal

pub range_from-requires : goal.range_from-requires
range_from-requires c _ =
    let slash : get_or c.args.uri.now c.in-Some.at 0 ≡ 47 = search rules in
    IsCharBoundary-after_ascii _ _ c.utf8.uri (search rules) (omega arith)

pub returns-in-Some : goal.returns-in-Some
returns-in-Some c =
    let found = after-last c.args.uri.now c.in-Some.at (search rules) (search rules)
    (search rules) in rw found (search rules)

pub returns-in-None : goal.returns-in-None
returns-in-None c = sym (last-none c.args.uri.now (search rules))
