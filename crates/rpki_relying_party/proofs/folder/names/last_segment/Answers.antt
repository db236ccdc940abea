use Rattle.std.proofs.Common.{rules, sym}
use Rattle.std.proofs.lemmas.List.{take_rest}
use Rattle.rpki_relying_party.proofs.Names.{after-last, last-none}
use Rattle.rpki_relying_party.proofs.folder.names.last_segment.Goals as goal

pub returns-in-Some : goal.returns-in-Some
returns-in-Some c =
    let found = after-last c.args.uri.now c.in-Some.at (search rules) (search rules)
    (search rules) in rw (found, take_rest)

pub returns-in-None : goal.returns-in-None
returns-in-None c = sym (last-none c.args.uri.now (search rules))
